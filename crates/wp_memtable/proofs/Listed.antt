-- What the keys' versions are as one list.
use Rattle.std.proofs.Common.{◌≡◌, ℕ, zero, suc, ◌+◌, ◌<◌, ◌≤◌, Bool, true, false, cond, not, ◌&&◌, ◌||◌, ◌==◌, Less, Equal, Greater, List, [], ◌∷◌, ◌++◌, length, get_or, take, nat_eq, nat_lt, map, filter, Option, Some, None, is_some, unwrap_or, ◌⊎◌, inl, inr, refl, sym, ap, ◌∙◌, subst, arith, length-append}
use Rattle.std.specs.Option.{option_or, option_map_or, option_and_then}
use Rattle.std.specs.Ordering.{nat_cmp, is_eq, ordering_then, match_ordering}
use Rattle.std.specs.declared.cmp.Ordering.{Ordering}
use Rattle.std.specs.Str.{bytes_eq}
use Rattle.std.specs.Cmp.{Equal-is, eq_by_cmp_equiv, nat_eq_equiv}
use Rattle.std.specs.List.{AllByRecursion, list_all, list_any}
use Rattle.std.specs.List.Sorted.{IsStrictlySortedBy}
use Rattle.std.specs.Map.{lookup, keys_of, set_value}
use Rattle.std.specs.Map.Calls.{RetainsPairs}
use Rattle.std.specs.BTreeMap.{is_at, insert_entry}
use Rattle.std.proofs.lemmas.Bool.{false≢true, ltb-false, and_from, and_parts}
use Rattle.std.proofs.lemmas.Cmp.{nat_list_cmp_total, tied_itself}
use Rattle.std.proofs.lemmas.List.{append-nil, map-append, take_more}
use Rattle.std.proofs.lemmas.List.Elements.{filter-append}
use Rattle.std.proofs.lemmas.List.Filters.{length-filter_both}
use Rattle.std.proofs.lemmas.Map.{lookup-none}
use Rattle.std.proofs.lemmas.Map.Entries.{none_below_head, none_past_head}
use Rattle.std.proofs.lemmas.Map.Keys.{IsDistinct-from_sorted, sorted_head, sorted_tail}
use Rattle.std.proofs.lemmas.Map.Lookups.{exact_bytes}
use Rattle.std.proofs.lemmas.Map.Text.{is_eq-slice_cmp}
use Rattle.std.proofs.lemmas.Slice.Eq.{bytes_eq-Decides}
use Rattle.wp_model.specs.declared.change.Change.{Change}
use Rattle.wp_model.specs.Batch.{key_cmp, key_of, value_of, change_to}
use Rattle.wp_model.specs.declared.version.Version.{Version}
use Rattle.wp_model.specs.Word.{is_key}
use Rattle.wp_model.specs.Versions.{AreInOrder, version_at}
use Rattle.wp_model.proofs.VersionLists.{IsBefore, in_order_nil, in_order_cons, or_cond}
use Rattle.wp_memtable.specs.KeyVersions.{Numbered, RoomyVersions, newest_cmp, AreNewestFirst}
use Rattle.wp_memtable.specs.Memtable.{Places, HavePlaces, under, versions_in, AllNewestFirst, AreWellOrdered, numbered_of, place_at}

-- ---- keys and numbers, tested the other way round

bytes_eq-back : (a b : List ℕ) → bytes_eq a b ≡ bytes_eq b a
bytes_eq-back a b = sym (is_eq-slice_cmp a b) ∙ (eq_by_cmp_equiv nat_list_cmp_total).symm a b ∙ is_eq-slice_cmp b a

at_key : (key k : List ℕ) → is_at (key_cmp key) k ≡ bytes_eq k key
at_key key k = is_eq-slice_cmp key k ∙ bytes_eq-back key k

-- ---- what is under a key and a number

-- what the places have under the key and the number
abbrev pub found_at : Places → List ℕ → ℕ → Option (Option (List ℕ))
found_at es key m = option_and_then (λ r. lookup (nat_eq m) r.versions) (lookup (is_at (key_cmp key)) es)

version_at-under : (k : List ℕ) (ps : Numbered) (rest : List Version) (key : List ℕ) (m : ℕ) (b : Bool) → bytes_eq k key ≡ b → version_at (under k ps ++ rest) key m ≡ cond b (option_or (lookup (nat_eq m) ps) (version_at rest key m)) (version_at rest key m)
version_at-under k [] rest key m true is = refl
version_at-under k [] rest key m false is = refl
version_at-under k (p ∷ ps) rest key m true is =
    rw (is, nat_eq_equiv.symm p.0 m) (ap (cond (nat_eq m p.0) (Some p.1)) (version_at-under k ps rest key m true is) ∙ or_cond (nat_eq m p.0) p.1 (lookup (nat_eq m) ps) (version_at rest key m))
version_at-under k (p ∷ ps) rest key m false is = rw is (version_at-under k ps rest key m false is)

missing_after : (e : List ℕ × RoomyVersions) (es : Places) (key : List ℕ) → IsStrictlySortedBy key_cmp (keys_of (e ∷ es)) → is_at (key_cmp key) e.0 ≡ true → lookup (is_at (key_cmp key)) es ≡ None
missing_after e es key sorted here =
    lookup-none (is_at (key_cmp key)) es (none_past_head (eq_by_cmp_equiv nat_list_cmp_total) key e es (IsDistinct-from_sorted key_cmp _ sorted) here)

or_none : (o : Option (Option (List ℕ))) → option_or o None ≡ o
or_none None = refl
or_none (Some v) = refl

pub version_at-versions_in : (es : Places) (key : List ℕ) (m : ℕ) → IsStrictlySortedBy key_cmp (keys_of es) → version_at (versions_in es) key m ≡ found_at es key m
version_at-versions_in [] key m sorted = refl
version_at-versions_in (e ∷ es) key m sorted = by (is_at (key_cmp key) e.0) refl (version_at-versions_in es key m (sorted_tail key_cmp e.0 (keys_of es) sorted))
  where
    by : (b : Bool) → is_at (key_cmp key) e.0 ≡ b → version_at (versions_in es) key m ≡ found_at es key m → version_at (versions_in (e ∷ es)) key m ≡ option_and_then (λ r. lookup (nat_eq m) r.versions) (cond b (Some e.1) (lookup (is_at (key_cmp key)) es))
    by true is rest =
        let none = missing_after e es key sorted is in
        version_at-under e.0 e.1.versions (versions_in es) key m true (sym (at_key key e.0) ∙ is)
        ∙ ap (option_or (lookup (nat_eq m) e.1.versions)) (rest ∙ ap (option_and_then (λ (r : RoomyVersions). lookup (nat_eq m) r.versions)) none)
        ∙ or_none (lookup (nat_eq m) e.1.versions)
    by false is rest = version_at-under e.0 e.1.versions (versions_in es) key m false (sym (at_key key e.0) ∙ is) ∙ rest

-- ---- their order

before_append : (v : Version) (xs ys : List Version) → IsBefore v xs → IsBefore v ys → IsBefore v (xs ++ ys)
before_append v [] ys first second = second
before_append v (x ∷ xs) ys first second = (first.0, before_append v xs ys first.1 second)

before_under : (k : List ℕ) (n : ℕ) (v : Option (List ℕ)) (ps : Numbered) → AllByRecursion (λ m. newest_cmp n m ≡ Less) (keys_of ps) → IsBefore (record { key = k; number = n; value = v }) (under k ps)
before_under k n v [] below = tt
before_under k n v (p ∷ ps) below = (ap (λ o. ordering_then o (nat_cmp p.0 n)) (tied_itself nat_list_cmp_total k) ∙ below.0, before_under k n v ps below.1)

before_other : (k : List ℕ) (n : ℕ) (v : Option (List ℕ)) (l : List ℕ) (ps : Numbered) → key_cmp k l ≡ Less → IsBefore (record { key = k; number = n; value = v }) (under l ps)
before_other k n v l [] less = tt
before_other k n v l (p ∷ ps) less = (ap (λ o. ordering_then o (nat_cmp p.0 n)) less, before_other k n v l ps less)

before_all : (k : List ℕ) (n : ℕ) (v : Option (List ℕ)) (es : Places) → AllByRecursion (λ l. key_cmp k l ≡ Less) (keys_of es) → IsBefore (record { key = k; number = n; value = v }) (versions_in es)
before_all k n v [] below = tt
before_all k n v (e ∷ es) below = before_append (record { key = k; number = n; value = v }) (under e.0 e.1.versions) (versions_in es) (before_other k n v e.0 e.1.versions below.0) (before_all k n v es below.1)

in_order-under : (k : List ℕ) (ps : Numbered) (es : Places) → AreNewestFirst ps → AllByRecursion (λ l. key_cmp k l ≡ Less) (keys_of es) → AreInOrder (versions_in es) → AreInOrder (under k ps ++ versions_in es)
in_order-under k [] es newest below rest = rest
in_order-under k (p ∷ ps) es newest below rest =
    in_order_cons _ (under k ps ++ versions_in es)
    (before_append (record { key = k; number = p.0; value = p.1 }) (under k ps) (versions_in es) (before_under k p.0 p.1 ps (sorted_head newest_cmp p.0 (keys_of ps) newest)) (before_all k p.0 p.1 es below))
    (in_order-under k ps es (sorted_tail newest_cmp p.0 (keys_of ps) newest) below rest)

words_under : (k : List ℕ) (ps : Numbered) (rest : List Version) → is_key k ≡ true → list_all (λ v. is_key v.key) rest ≡ true → list_all (λ v. is_key v.key) (under k ps ++ rest) ≡ true
words_under k [] rest word all = all
words_under k (p ∷ ps) rest word all = and_from (is_key k) (list_all (λ v. is_key v.key) (under k ps ++ rest)) word (words_under k ps rest word all)

-- the keys of all versions are in their range
pub words_in : (es : Places) → list_all is_key (keys_of es) ≡ true → list_all (λ v. is_key v.key) (versions_in es) ≡ true
words_in [] all = refl
words_in (e ∷ es) all =
    let parts = and_parts (is_key e.0) (list_all is_key (keys_of es)) all in
    words_under e.0 e.1.versions (versions_in es) parts.0 (words_in es parts.1)

pub in_order-versions_in : (es : Places) → AreWellOrdered es → AreInOrder (versions_in es)
in_order-versions_in [] ordered = in_order_nil
in_order-versions_in (e ∷ es) ordered =
    in_order-under e.0 e.1.versions es ordered.newest_first.0 (sorted_head key_cmp e.0 (keys_of es) ordered.keys)
    (in_order-versions_in es (record { keys = sorted_tail key_cmp e.0 (keys_of es) ordered.keys; words = (and_parts (is_key e.0) (list_all is_key (keys_of es)) ordered.words).1; newest_first = ordered.newest_first.1 }))

-- ---- the versions of one key

filter_under : (k key : List ℕ) (ps : Numbered) (b : Bool) → bytes_eq k key ≡ b → filter (λ v. bytes_eq v.key key) (under k ps) ≡ cond b (under k ps) []
filter_under k key [] true is = refl
filter_under k key [] false is = refl
filter_under k key (p ∷ ps) true is = rw is (ap (λ (vs : List Version). record { key = k; number = p.0; value = p.1 } ∷ vs) (filter_under k key ps true is))
filter_under k key (p ∷ ps) false is = rw is (filter_under k key ps false is)

numbered_under : (k : List ℕ) (ps : Numbered) → map (λ v. (v.number, v.value)) (under k ps) ≡ ps
numbered_under k [] = refl
numbered_under k (p ∷ ps) = ap (λ (qs : Numbered). p ∷ qs) (numbered_under k ps)

-- the versions that a key has in the places
abbrev pub versions_at : Option RoomyVersions → Numbered
versions_at found = option_map_or (λ r. r.versions) found []

pub numbered_of-versions_in : (es : Places) (key : List ℕ) → IsStrictlySortedBy key_cmp (keys_of es) → numbered_of key (versions_in es) ≡ versions_at (lookup (is_at (key_cmp key)) es)
numbered_of-versions_in [] key sorted = refl
numbered_of-versions_in (e ∷ es) key sorted = by (is_at (key_cmp key) e.0) refl (numbered_of-versions_in es key (sorted_tail key_cmp e.0 (keys_of es) sorted))
  where
    front : (b : Bool) → bytes_eq e.0 key ≡ b → numbered_of key (versions_in (e ∷ es)) ≡ map (λ v. (v.number, v.value)) (cond b (under e.0 e.1.versions) []) ++ numbered_of key (versions_in es)
    front b is = ap (map (λ v. (v.number, v.value))) (filter-append (λ v. bytes_eq v.key key) (under e.0 e.1.versions) (versions_in es) ∙ ap (λ vs. vs ++ filter (λ v. bytes_eq v.key key) (versions_in es)) (filter_under e.0 key e.1.versions b is)) ∙ map-append (λ v. (v.number, v.value)) (cond b (under e.0 e.1.versions) []) (filter (λ v. bytes_eq v.key key) (versions_in es))

    by : (b : Bool) → is_at (key_cmp key) e.0 ≡ b → numbered_of key (versions_in es) ≡ versions_at (lookup (is_at (key_cmp key)) es) → numbered_of key (versions_in (e ∷ es)) ≡ versions_at (cond b (Some e.1) (lookup (is_at (key_cmp key)) es))
    by true is rest =
        let none = missing_after e es key sorted is in
        front true (sym (at_key key e.0) ∙ is)
        ∙ ap (λ (ps : Numbered). ps ++ numbered_of key (versions_in es)) (numbered_under e.0 e.1.versions)
        ∙ ap (λ (ps : Numbered). e.1.versions ++ ps) (rest ∙ ap versions_at none)
        ∙ append-nil e.1.versions
    by false is rest = front false (sym (at_key key e.0) ∙ is) ∙ rest

-- ---- a change at one key

versions_of-same : (test : List ℕ → Bool) (es : Places) (r w : RoomyVersions) → lookup test es ≡ Some r → w.versions ≡ r.versions → versions_in (set_value test es w) ≡ versions_in es
versions_of-same test [] r w found same = refl
versions_of-same test (e ∷ es) r w found same = by (test e.0) (λ h. versions_of-same test es r w h same) found
  where
    by : (b : Bool) → (lookup test es ≡ Some r → versions_in (set_value test es w) ≡ versions_in es) → cond b (Some e.1) (lookup test es) ≡ Some r → versions_in (cond b ((e.0, w) ∷ es) (e ∷ set_value test es w)) ≡ under e.0 e.1.versions ++ versions_in es
    by true rest is = ap (λ (ps : Numbered). under e.0 ps ++ versions_in es) (same ∙ ap (λ o. versions_at o) (sym is))
    by false rest is = ap (λ vs. under e.0 e.1.versions ++ vs) (rest is)

versions_of-none_more : (es : Places) (k : List ℕ) (w : RoomyVersions) → lookup (is_at (key_cmp k)) es ≡ None → w.versions ≡ [] → versions_in (insert_entry key_cmp es k w) ≡ versions_in es
versions_of-none_more [] k w found none = ap (λ (ps : Numbered). under k ps ++ []) none
versions_of-none_more (e ∷ es) k w found none = by (key_cmp k e.0) (λ h. versions_of-none_more es k w h none) found
  where
    by : (o : Ordering) → (lookup (is_at (key_cmp k)) es ≡ None → versions_in (insert_entry key_cmp es k w) ≡ versions_in es) → cond (is_eq o) (Some e.1) (lookup (is_at (key_cmp k)) es) ≡ None → versions_in (match_ordering o ((k, w) ∷ e ∷ es) ((e.0, w) ∷ es) (e ∷ insert_entry key_cmp es k w)) ≡ under e.0 e.1.versions ++ versions_in es
    by Less rest is = ap (λ (ps : Numbered). under k ps ++ (under e.0 e.1.versions ++ versions_in es)) none
    by Equal rest is = absurd cc
    by Greater rest is = ap (λ vs. under e.0 e.1.versions ++ vs) (rest is)

length-under : (k : List ℕ) (ps : Numbered) → length (under k ps) ≡ length ps
length-under k [] = refl
length-under k (p ∷ ps) = omega (arith, length-under k ps)

length-changed : (test : List ℕ → Bool) (es : Places) (r w : RoomyVersions) (n : ℕ) → lookup test es ≡ Some r → length w.versions ≡ length r.versions + n → length (versions_in (set_value test es w)) ≡ length (versions_in es) + n
length-changed test [] r w n found longer = absurd cc
length-changed test (e ∷ es) r w n found longer = by (test e.0) (λ h. length-changed test es r w n h longer) found
  where
    by : (b : Bool) → (lookup test es ≡ Some r → length (versions_in (set_value test es w)) ≡ length (versions_in es) + n) → cond b (Some e.1) (lookup test es) ≡ Some r → length (versions_in (cond b ((e.0, w) ∷ es) (e ∷ set_value test es w))) ≡ length (under e.0 e.1.versions ++ versions_in es) + n
    by true rest is =
        let here : length e.1.versions ≡ length r.versions = ap (λ o. length (versions_at o)) is in
        omega (arith, length-append (under e.0 w.versions) (versions_in es), length-append (under e.0 e.1.versions) (versions_in es), length-under e.0 w.versions, length-under e.0 e.1.versions)
    by false rest is = omega (arith, length-append (under e.0 e.1.versions) (versions_in (set_value test es w)), length-append (under e.0 e.1.versions) (versions_in es), rest is)

newest-changed : (test : List ℕ → Bool) (es : Places) (w : RoomyVersions) → AllNewestFirst es → AreNewestFirst w.versions → AllNewestFirst (set_value test es w)
newest-changed test [] w all newest = tt
newest-changed test (e ∷ es) w all newest = by (test e.0) (newest-changed test es w all.1 newest)
  where
    by : (b : Bool) → AllNewestFirst (set_value test es w) → AllNewestFirst (cond b ((e.0, w) ∷ es) (e ∷ set_value test es w))
    by true rest = (newest, all.1)
    by false rest = (all.0, rest)

newest-inserted : (es : Places) (k : List ℕ) (w : RoomyVersions) → AllNewestFirst es → AreNewestFirst w.versions → AllNewestFirst (insert_entry key_cmp es k w)
newest-inserted [] k w all newest = (newest, tt)
newest-inserted (e ∷ es) k w all newest = by (key_cmp k e.0) (newest-inserted es k w all.1 newest)
  where
    by : (o : Ordering) → AllNewestFirst (insert_entry key_cmp es k w) → AllNewestFirst (match_ordering o ((k, w) ∷ e ∷ es) ((e.0, w) ∷ es) (e ∷ insert_entry key_cmp es k w))
    by Less rest = (newest, all)
    by Equal rest = (newest, all.1)
    by Greater rest = (all.0, rest)

words-inserted : (es : Places) (k : List ℕ) (w : RoomyVersions) → is_key k ≡ true → list_all is_key (keys_of es) ≡ true → list_all is_key (keys_of (insert_entry key_cmp es k w)) ≡ true
words-inserted [] k w word all = and_from (is_key k) true word refl
words-inserted (e ∷ es) k w word all = by (key_cmp k e.0) (words-inserted es k w word (and_parts (is_key e.0) (list_all is_key (keys_of es)) all).1)
  where
    by : (o : Ordering) → list_all is_key (keys_of (insert_entry key_cmp es k w)) ≡ true → list_all is_key (keys_of (match_ordering o ((k, w) ∷ e ∷ es) ((e.0, w) ∷ es) (e ∷ insert_entry key_cmp es k w))) ≡ true
    by Less rest = and_from (is_key k) (list_all is_key (keys_of (e ∷ es))) word all
    by Equal rest = all
    by Greater rest = and_from (is_key e.0) (list_all is_key (keys_of (insert_entry key_cmp es k w))) (and_parts (is_key e.0) (list_all is_key (keys_of es)) all).0 rest

-- ---- the same of places that equal those

pub changed_same : (k : List ℕ) (es ns : Places) (r w : RoomyVersions) → ns ≡ set_value (is_at (key_cmp k)) es w → Some r ≡ lookup (is_at (key_cmp k)) es → w.versions ≡ r.versions → versions_in ns ≡ versions_in es
changed_same k es ns r w is found same = ap versions_in is ∙ versions_of-same (is_at (key_cmp k)) es r w (sym found) same

pub changed_length : (k : List ℕ) (es ns : Places) (r w : RoomyVersions) (n : ℕ) → ns ≡ set_value (is_at (key_cmp k)) es w → Some r ≡ lookup (is_at (key_cmp k)) es → length w.versions ≡ length r.versions + n → length (versions_in ns) ≡ length (versions_in es) + n
changed_length k es ns r w n is found longer = ap (λ ms. length (versions_in ms)) is ∙ length-changed (is_at (key_cmp k)) es r w n (sym found) longer

pub changed_ordered : (k : List ℕ) (es ns : Places) (w : RoomyVersions) → ns ≡ set_value (is_at (key_cmp k)) es w → AreWellOrdered es → keys_of ns ≡ keys_of es → AreNewestFirst w.versions → AreWellOrdered ns
changed_ordered k es ns w is ordered same newest = record { keys = subst (IsStrictlySortedBy key_cmp) (sym same) ordered.keys; words = ap (list_all is_key) same ∙ ordered.words; newest_first = subst AllNewestFirst (sym is) (newest-changed (is_at (key_cmp k)) es w ordered.newest_first newest) }

pub inserted_same : (es ns : Places) (k : List ℕ) (w : RoomyVersions) → ns ≡ insert_entry key_cmp es k w → None ≡ lookup (is_at (key_cmp k)) es → w.versions ≡ [] → versions_in ns ≡ versions_in es
inserted_same es ns k w is found none = ap versions_in is ∙ versions_of-none_more es k w (sym found) none

pub inserted_ordered : (es ns : Places) (k : List ℕ) (w : RoomyVersions) → ns ≡ insert_entry key_cmp es k w → is_key k ≡ true → AreWellOrdered es → IsStrictlySortedBy key_cmp (keys_of ns) → AreNewestFirst w.versions → AreWellOrdered ns
inserted_ordered es ns k w is word ordered keys newest = record { keys = keys; words = ap (λ ms. list_all is_key (keys_of ms)) is ∙ words-inserted es k w word ordered.words; newest_first = subst AllNewestFirst (sym is) (newest-inserted es k w ordered.newest_first newest) }

-- what is under each key and number, where one version was put under k and n, which had these before
pub version_at-put : (k : List ℕ) (n : ℕ) (v : Option (List ℕ)) (es ns : Places) (had : Numbered) (w : RoomyVersions) → AreWellOrdered es → AreWellOrdered ns → versions_at (lookup (is_at (key_cmp k)) es) ≡ had → ((m : ℕ) → lookup (nat_eq m) w.versions ≡ cond (n == m) (Some v) (lookup (nat_eq m) had)) → ((q : List ℕ) → lookup (is_at (key_cmp q)) ns ≡ cond (is_at (key_cmp k) q) (Some w) (lookup (is_at (key_cmp q)) es)) → (key : List ℕ) (m : ℕ) → version_at (versions_in ns) key m ≡ cond (bytes_eq k key && (m == n)) (Some v) (version_at (versions_in es) key m)
version_at-put k n v es ns had w old new found put updated key m =
    version_at-versions_in ns key m new.keys
    ∙ ap (option_and_then (λ r. lookup (nat_eq m) r.versions)) (updated key)
    ∙ by (bytes_eq k key) (sym (is_eq-slice_cmp k key))
    ∙ ap (cond (bytes_eq k key && (m == n)) (Some v)) (sym (version_at-versions_in es key m old.keys))
  where
    through : (o : Option RoomyVersions) → option_and_then (λ r. lookup (nat_eq m) r.versions) o ≡ lookup (nat_eq m) (versions_at o)
    through None = refl
    through (Some r) = refl

    by : (b : Bool) → b ≡ is_at (key_cmp k) key → option_and_then (λ r. lookup (nat_eq m) r.versions) (cond (is_at (key_cmp k) key) (Some w) (lookup (is_at (key_cmp key)) es)) ≡ cond (b && (m == n)) (Some v) (found_at es key m)
    by true is =
        let same : k ≡ key = exact_bytes k key ((Equal-is _).0 (sym is)) in
        let here = through (lookup (is_at (key_cmp key)) es) ∙ ap (lookup (nat_eq m)) (ap (λ q. versions_at (lookup (is_at (key_cmp q)) es)) (sym same) ∙ found) in
        rw (← is, here) (put m ∙ ap (λ b. cond b (Some v) (lookup (nat_eq m) had)) (nat_eq_equiv.symm n m))
    by false is = rw (← is) refl

-- ---- a version of one key, put by one search

none_above : (k : List ℕ) (e : List ℕ × RoomyVersions) (es : Places) → IsStrictlySortedBy key_cmp (keys_of (e ∷ es)) → key_cmp k e.0 ≡ Less → versions_at (lookup (is_at (key_cmp k)) es) ≡ []
none_above k e es sorted less = ap versions_at (lookup-none (is_at (key_cmp k)) es (none_below_head nat_list_cmp_total k e es sorted less).1)

versions_of-put : (es : Places) (k : List ℕ) (w : RoomyVersions) → IsStrictlySortedBy key_cmp (keys_of es) → w.versions ≡ versions_at (lookup (is_at (key_cmp k)) es) → versions_in (insert_entry key_cmp es k w) ≡ versions_in es
versions_of-put [] k w sorted same = ap (λ (ps : Numbered). under k ps ++ []) same
versions_of-put (e ∷ es) k w sorted same = by (key_cmp k e.0) refl (versions_of-put es k w (sorted_tail key_cmp e.0 (keys_of es) sorted)) same
  where
    by : (o : Ordering) → key_cmp k e.0 ≡ o → (w.versions ≡ versions_at (lookup (is_at (key_cmp k)) es) → versions_in (insert_entry key_cmp es k w) ≡ versions_in es) → w.versions ≡ versions_at (cond (is_eq o) (Some e.1) (lookup (is_at (key_cmp k)) es)) → versions_in (match_ordering o ((k, w) ∷ e ∷ es) ((e.0, w) ∷ es) (e ∷ insert_entry key_cmp es k w)) ≡ under e.0 e.1.versions ++ versions_in es
    by Less is rest same = ap (λ (ps : Numbered). under k ps ++ (under e.0 e.1.versions ++ versions_in es)) (same ∙ none_above k e es sorted is)
    by Equal is rest same = ap (λ (ps : Numbered). under e.0 ps ++ versions_in es) same
    by Greater is rest same = ap (λ vs. under e.0 e.1.versions ++ vs) (rest same)

length-put : (es : Places) (k : List ℕ) (w : RoomyVersions) (n : ℕ) → IsStrictlySortedBy key_cmp (keys_of es) → length w.versions ≡ length (versions_at (lookup (is_at (key_cmp k)) es)) + n → length (versions_in (insert_entry key_cmp es k w)) ≡ length (versions_in es) + n
length-put [] k w n sorted longer = omega (arith, length-append (under k w.versions) [], length-under k w.versions, longer)
length-put (e ∷ es) k w n sorted longer = by (key_cmp k e.0) refl (length-put es k w n (sorted_tail key_cmp e.0 (keys_of es) sorted)) longer
  where
    by : (o : Ordering) → key_cmp k e.0 ≡ o → (length w.versions ≡ length (versions_at (lookup (is_at (key_cmp k)) es)) + n → length (versions_in (insert_entry key_cmp es k w)) ≡ length (versions_in es) + n) → length w.versions ≡ length (versions_at (cond (is_eq o) (Some e.1) (lookup (is_at (key_cmp k)) es))) + n → length (versions_in (match_ordering o ((k, w) ∷ e ∷ es) ((e.0, w) ∷ es) (e ∷ insert_entry key_cmp es k w))) ≡ length (under e.0 e.1.versions ++ versions_in es) + n
    by Less is rest longer =
        let none : length (versions_at (lookup (is_at (key_cmp k)) es)) ≡ 0 = ap length (none_above k e es sorted is) in
        omega (arith, length-append (under k w.versions) (under e.0 e.1.versions ++ versions_in es), length-under k w.versions, longer, none)
    by Equal is rest longer = omega (arith, length-append (under e.0 w.versions) (versions_in es), length-append (under e.0 e.1.versions) (versions_in es), length-under e.0 w.versions, length-under e.0 e.1.versions, longer)
    by Greater is rest longer = omega (arith, length-append (under e.0 e.1.versions) (versions_in (insert_entry key_cmp es k w)), length-append (under e.0 e.1.versions) (versions_in es), rest longer)

-- of places ns that are ms, which are es with w under k
module _ (es ns ms : Places) (k : List ℕ) (w : RoomyVersions) (here : ns ≡ ms) (is : ms ≡ insert_entry key_cmp es k w) (ordered : AreWellOrdered es) where
  pub put_same : w.versions ≡ versions_at (lookup (is_at (key_cmp k)) es) → versions_in ns ≡ versions_in es
  put_same same = ap versions_in (here ∙ is) ∙ versions_of-put es k w ordered.keys same

  pub put_length : (n : ℕ) → length w.versions ≡ length (versions_at (lookup (is_at (key_cmp k)) es)) + n → length (versions_in ns) ≡ length (versions_in es) + n
  put_length n longer = ap (λ xs. length (versions_in xs)) (here ∙ is) ∙ length-put es k w n ordered.keys longer

  pub put_ordered : is_key k ≡ true → IsStrictlySortedBy key_cmp (keys_of ms) → AreNewestFirst w.versions → AreWellOrdered ns
  put_ordered word keys newest = subst AreWellOrdered (sym here) (inserted_ordered es ms k w is word ordered keys newest)

  pub put_found : ((q : List ℕ) → lookup (is_at (key_cmp q)) ms ≡ cond (is_at (key_cmp k) q) (Some w) (lookup (is_at (key_cmp q)) es)) → (q : List ℕ) → lookup (is_at (key_cmp q)) ns ≡ cond (is_at (key_cmp k) q) (Some w) (lookup (is_at (key_cmp q)) es)
  put_found updates q = ap (λ (xs : Places). lookup (is_at (key_cmp q)) xs) here ∙ updates q

or_fresh : (found : Option RoomyVersions) (fresh : RoomyVersions) → fresh.versions ≡ [] → versions_at found ≡ (unwrap_or found fresh).versions
or_fresh None fresh none = sym none
or_fresh (Some r) fresh none = refl

-- the versions r that a key has, where a key that has none gets a fresh place
pub had_before : (es : Places) (k key : List ℕ) (found : Option RoomyVersions) (fresh r : RoomyVersions) → key ≡ k → found ≡ lookup (is_at (key_cmp key)) es → fresh.versions ≡ [] → r ≡ unwrap_or found fresh → versions_at (lookup (is_at (key_cmp k)) es) ≡ r.versions
had_before es k key found fresh r same is none got =
    ap (λ q. versions_at (lookup (is_at (key_cmp q)) es)) (sym same) ∙ ap (λ o. versions_at o) (sym is) ∙ or_fresh found fresh none ∙ ap (λ (x : RoomyVersions). x.versions) (sym got)

-- ---- one change alone

pub one_only : (changes : List Change) (c : Change) → length changes ≡ 1 → c ≡ get_or changes 0 c → changes ≡ c ∷ []
one_only [] c one is = absurd (omega (arith, one))
one_only (x ∷ []) c one is = ap (λ (y : Change). y ∷ []) (sym is)
one_only (x ∷ y ∷ ys) c one is = absurd (omega (arith, one))

pub one_change : (b d : Bool) (v : Option (List ℕ)) (old : Option (Option (List ℕ))) → cond (b && d) (Some v) old ≡ cond d (option_or (cond b (Some v) None) old) old
one_change true true v old = refl
one_change true false v old = refl
one_change false true v old = refl
one_change false false v old = refl

-- ---- numbers of versions

pub length-versions_in : (e : List ℕ × RoomyVersions) (es : Places) → length (versions_in (e ∷ es)) ≡ length e.1.versions + length (versions_in es)
length-versions_in e es = length-append (under e.0 e.1.versions) (versions_in es) ∙ ap (λ n. n + length (versions_in es)) (length-under e.0 e.1.versions)

-- ---- whether one of the versions passes

or_more : (x y z : Bool) → (x || (y || z)) ≡ ((x || y) || z)
or_more true y z = refl
or_more false y z = refl

any_under : (p : ℕ → Bool) (k : List ℕ) (ps : Numbered) (rest : List Version) → list_any (λ v. p v.number) (under k ps ++ rest) ≡ (list_any (λ q. p q.0) ps || list_any (λ v. p v.number) rest)
any_under p k [] rest = refl
any_under p k (q ∷ ps) rest = ap (λ x. p q.0 || x) (any_under p k ps rest) ∙ or_more (p q.0) (list_any (λ e. p e.0) ps) (list_any (λ v. p v.number) rest)

pub any-versions_in : (p : ℕ → Bool) (e : List ℕ × RoomyVersions) (es : Places) → list_any (λ v. p v.number) (versions_in (e ∷ es)) ≡ (list_any (λ q. p q.0) e.1.versions || list_any (λ v. p v.number) (versions_in es))
any-versions_in p e es = any_under p e.0 e.1.versions (versions_in es)

-- ---- the keys that changes change

pub is_change_to : (changes : List Change) (i : ℕ) (c : Change) → i < length changes → c ≡ get_or changes i c → is_some (change_to changes (key_of c)) ≡ true
is_change_to [] i c within is = absurd (omega arith)
is_change_to (x ∷ xs) zero c within is = rw (ap (λ (k : List ℕ). bytes_eq k (key_of c)) (ap key_of (sym is)) ∙ (bytes_eq-Decides (key_of c) (key_of c)).1 refl) refl
is_change_to (x ∷ xs) (suc i) c within is = by (bytes_eq (key_of x) (key_of c)) (is_change_to xs i c (omega arith) is)
  where
    by : (b : Bool) → is_some (change_to xs (key_of c)) ≡ true → is_some (cond b (Some (value_of x)) (change_to xs (key_of c))) ≡ true
    by true rest = refl
    by false rest = rest

change_of_last : (xs : List Change) (c : Change) (key : List ℕ) → is_some (change_to (xs ++ c ∷ []) key) ≡ true → (is_some (change_to xs key) ≡ true) ⊎ (key_of c ≡ key)
change_of_last [] c key some = by (bytes_eq (key_of c) key) refl some
  where
    by : (b : Bool) → bytes_eq (key_of c) key ≡ b → is_some (cond b (Some (value_of c)) None) ≡ true → (false ≡ true) ⊎ (key_of c ≡ key)
    by true is h = inr ((bytes_eq-Decides (key_of c) key).0 is)
    by false is h = absurd (false≢true h)
change_of_last (x ∷ xs) c key some = by (bytes_eq (key_of x) key) (change_of_last xs c key) some
  where
    by : (b : Bool) → (is_some (change_to (xs ++ c ∷ []) key) ≡ true → (is_some (change_to xs key) ≡ true) ⊎ (key_of c ≡ key)) → is_some (cond b (Some (value_of x)) (change_to (xs ++ c ∷ []) key)) ≡ true → (is_some (cond b (Some (value_of x)) (change_to xs key)) ≡ true) ⊎ (key_of c ≡ key)
    by true rest h = inl refl
    by false rest h = rest h

pub have_places_more : (old new : Places) (changes : List Change) (i n : ℕ) (c : Change) → i < length changes → c ≡ get_or changes i c → HavePlaces old (take i changes) n → ((key : List ℕ) → place_at old key n ≡ true → place_at new key n ≡ true) → place_at new (key_of c) n ≡ true → HavePlaces new (take (i + 1) changes) n
have_places_more old new changes i n c within is before others here key some =
    let front = take_more changes i c within ∙ ap (λ (x : Change). take i changes ++ x ∷ []) (sym is) in
    elim (change_of_last (take i changes) c key (sym (ap (λ xs. is_some (change_to xs key)) front) ∙ some)) [
      | inl had ↦ others key (before key had)
      | inr same ↦ ap (λ k. place_at new k n) (sym same) ∙ here
    ]

-- ---- numbers taken out everywhere

module _ (stays : ℕ → Bool) where
  -- what is left of a key's versions, those whose numbers stay, and whether any
  abbrev pub Removes : RoomyVersions → Bool → RoomyVersions → Type 0
  Removes v b w = (w.versions ≡ filter (λ e. stays e.0) v.versions) × AreNewestFirst w.versions × (b ≡ nat_lt 0 (length w.versions))

  abbrev pub staying : List Version → List Version
  staying versions = filter (λ v. stays v.number) versions

  staying_under : (k : List ℕ) (ps : Numbered) → under k (filter (λ e. stays e.0) ps) ≡ staying (under k ps)
  staying_under k [] = refl
  staying_under k (p ∷ ps) = by (stays p.0) (staying_under k ps)
    where
      by : (b : Bool) → under k (filter (λ e. stays e.0) ps) ≡ staying (under k ps) → under k (cond b (p ∷ filter (λ e. stays e.0) ps) (filter (λ e. stays e.0) ps)) ≡ cond b (record { key = k; number = p.0; value = p.1 } ∷ staying (under k ps)) (staying (under k ps))
      by true rest = ap (λ (vs : List Version). record { key = k; number = p.0; value = p.1 } ∷ vs) rest
      by false rest = rest

  pub record Retained (es kept : Places) : Type 0 where
    pub versions : versions_in kept ≡ staying (versions_in es)
    pub words : list_all is_key (keys_of es) ≡ true → list_all is_key (keys_of kept) ≡ true
    pub newest_first : AllNewestFirst kept

  none_left : (ps : Numbered) → false ≡ nat_lt 0 (length ps) → ps ≡ []
  none_left [] h = refl
  none_left (p ∷ ps) h = absurd (omega (arith, ltb-false 0 (length (p ∷ ps)) (sym h)))

  retained_cons : (e : List ℕ × RoomyVersions) (es rest kept : Places) (b : Bool) (w : RoomyVersions) → Removes e.1 b w → Retained es rest → kept ≡ cond b ((e.0, w) ∷ rest) rest → Retained (e ∷ es) kept
  retained_cons e es rest kept b w call after is = by b call.2 is
    where
      front : under e.0 w.versions ≡ staying (under e.0 e.1.versions)
      front = ap (under e.0) call.0 ∙ staying_under e.0 e.1.versions

      split : staying (versions_in (e ∷ es)) ≡ staying (under e.0 e.1.versions) ++ staying (versions_in es)
      split = filter-append (λ v. stays v.number) (under e.0 e.1.versions) (versions_in es)

      by : (b : Bool) → b ≡ nat_lt 0 (length w.versions) → kept ≡ cond b ((e.0, w) ∷ rest) rest → Retained (e ∷ es) kept
      by true some h = record { versions = ap versions_in h ∙ (λ i. front i ++ after.versions i) ∙ sym split; words = λ all. (let k = and_parts (is_key e.0) (list_all is_key (keys_of es)) all in ap (λ ms. list_all is_key (keys_of ms)) h ∙ and_from (is_key e.0) (list_all is_key (keys_of rest)) k.0 (after.words k.1)); newest_first = subst AllNewestFirst (sym h) (call.1, after.newest_first) }
      by false none h =
          let gone : staying (under e.0 e.1.versions) ≡ [] = sym front ∙ ap (under e.0) (none_left w.versions none) in
          record { versions = ap versions_in h ∙ after.versions ∙ sym (split ∙ ap (λ (vs : List Version). vs ++ staying (versions_in es)) gone); words = λ all. ap (λ ms. list_all is_key (keys_of ms)) h ∙ after.words (and_parts (is_key e.0) (list_all is_key (keys_of es)) all).1; newest_first = subst AllNewestFirst (sym h) after.newest_first }

  pub retained : {F : Type 0} (T : F → List ℕ → RoomyVersions → Bool → RoomyVersions → F → Type 0) (f : F) → ((k : List ℕ) (v : RoomyVersions) (b : Bool) (w : RoomyVersions) (f' : F) → T f k v b w f' → (f' ≡ f) × Removes v b w) → (es kept : Places) → RetainsPairs T f es kept → Retained es kept
  retained T f calls [] kept h = record { versions = ap versions_in h; words = λ all. ap (λ ms. list_all is_key (keys_of ms)) h; newest_first = subst AllNewestFirst (sym h) tt }
  retained T f calls (e ∷ es) kept (b, w, f', rest, t, others, is) =
      let call = calls e.0 e.1 b w f' t in
      retained_cons e es rest kept b w call.1 (retained T f calls es rest (subst (λ g. RetainsPairs T g es rest) call.0 others)) is

  pub length-staying : (vs : List Version) → length (staying vs) ≤ length vs
  length-staying vs = omega (arith, length-filter_both (λ (v : Version). stays v.number) (λ (v : Version). not (stays v.number)) (λ v. refl) vs)
