-- The next version of lists that are merged is the least of what each has next, and of its key it is the newest.
use Rattle.std.proofs.Common.{◌≡◌, ℕ, Bool, true, false, true≢false, cond, Less, Equal, Greater, List, [], ◌∷◌, ◌++◌, take, Option, Some, None, IfSome, refl, sym, ap, subst, ◌∙◌}
use Rattle.std.specs.List.{AllByRecursion, find, list_all}
use Rattle.std.specs.Option.{option_map}
use Rattle.std.specs.Ordering.{is_lt, ordering_reverse}
use Rattle.std.specs.Str.{bytes_eq}
use Rattle.std.specs.declared.cmp.Ordering.{Ordering}
use Rattle.std.proofs.lemmas.Bool.{and_from, and_parts}
use Rattle.std.proofs.lemmas.Map.Lookups.{exact_bytes}
use Rattle.std.proofs.lemmas.Slice.Eq.{bytes_eq-Decides}
use Rattle.wp_model.specs.Batch.{key_cmp}
use Rattle.wp_model.specs.Rows.{is_from, next_version}
use Rattle.wp_model.specs.Word.{is_key}
use Rattle.wp_model.specs.declared.version.Version.{Version}
use Rattle.wp_model.specs.Versions.{AreInOrder, version_at, version_cmp}
use Rattle.wp_model.proofs.VersionLists.{IsBefore, in_order_nil, in_order_parts, version_total}
use Rattle.wp_merge.specs.Merge.{AreMerged, first_at, choose_by_order, weave, merge_of}
use Rattle.wp_merge.proofs.Merged.{before_more, both_equal, in_order-merge, merged_next, or_none}
use Rattle.wp_table.specs.declared.version.VersionRef.{VersionRef}
use Rattle.wp_table.specs.Borrowed.{seen}
use Rattle.wp_table.specs.Table.{has_words}
use Rattle.wp_store.specs.Store.{of_key, newest_of, least_version, least_next, AreWords, IsCopyable}
use Rattle.wp_store.proofs.OneMerge.{AreAllInOrder, one_list}

-- ---- lists merged one by one, from the first on

abbrev woven : List Version → List (List Version) → List Version
woven versions [] = versions
woven versions (part ∷ parts) = woven (merge_of versions part) parts

in_order-woven : (versions : List Version) (parts : List (List Version)) → AreInOrder versions → AreAllInOrder parts → AreInOrder (woven versions parts)
in_order-woven versions [] h all = h
in_order-woven versions (part ∷ parts) h all = in_order-woven (merge_of versions part) parts (in_order-merge versions part h all.0) all.1

at_woven : (key : List ℕ) (n : ℕ) (versions : List Version) (parts : List (List Version)) → AreInOrder versions → AreAllInOrder parts → version_at (woven versions parts) key n ≡ first_at (versions ∷ parts) key n
at_woven key n versions [] h all = sym (or_none key n (version_at versions key n))
at_woven key n versions (part ∷ parts) h all =
    at_woven key n (merge_of versions part) parts (in_order-merge versions part h all.0) all.1 ∙ merged_next key n versions part (merge_of versions part) parts refl h

woven_is : (versions : List Version) (parts : List (List Version)) (all : List Version) → AreInOrder versions → AreAllInOrder parts → AreMerged (versions ∷ parts) all → all ≡ woven versions parts
woven_is versions parts all h hs merged =
    one_list all (woven versions parts) merged.in_order (in_order-woven versions parts h hs) (λ key n. merged.each key n ∙ sym (at_woven key n versions parts h hs))

-- ---- the first version whose key passes a test

turned : (x y : Version) (o : Ordering) → version_cmp x y ≡ o → version_cmp y x ≡ ordering_reverse o
turned x y o is = version_total.antisymm y x ∙ ap ordering_reverse is

stays : (x y : Version) (o : Ordering) → version_cmp y x ≡ o → is_lt o ≡ false → least_version (Some x) (Some y) ≡ Some x
stays x y o is not_less = ap (λ b. cond b (Some y) (Some x)) (ap is_lt is ∙ not_less)

least_none : (o : Option Version) → least_version o None ≡ o
least_none None = refl
least_none (Some v) = refl

some_is : (v w : Version) → Some v ≡ Some w → v ≡ w
some_is v w e = cc

none_is_some : (v : Version) → None ≡ Some v → ⊥
none_is_some v e = absurd cc

module _ (passes : List ℕ → Bool) where
  abbrev first : List Version → Option Version
  first versions = find (λ v. passes v.key) versions

  before_first : (x : Version) (ys : List Version) → IsBefore x ys → least_version (Some x) (first ys) ≡ Some x
  before_first x [] before = refl
  before_first x (y ∷ ys) before = by (passes y.key) (before_first x ys before.1)
    where
      by : (b : Bool) → least_version (Some x) (first ys) ≡ Some x → least_version (Some x) (cond b (Some y) (first ys)) ≡ Some x
      by true again = stays x y Greater (turned x y Less before.0) refl
      by false again = again

  behind_first : (y : Version) (xs : List Version) → IsBefore y xs → least_version (first xs) (Some y) ≡ Some y
  behind_first y [] before = refl
  behind_first y (x ∷ xs) before = by (passes x.key) (behind_first y xs before.1)
    where
      by : (b : Bool) → least_version (first xs) (Some y) ≡ Some y → least_version (cond b (Some x) (first xs)) (Some y) ≡ Some y
      by true again = ap (λ o. cond (is_lt o) (Some y) (Some x)) before.0
      by false again = again

  first_weave : (x : Version) (xs ys : List Version) → IsBefore x xs → ((zs : List Version) → AreInOrder zs → first (merge_of xs zs) ≡ least_version (first xs) (first zs)) → AreInOrder ys → first (weave x (merge_of xs) ys) ≡ least_version (first (x ∷ xs)) (first ys)
  first_weave x xs [] before after h = by (passes x.key)
    where
      by : (b : Bool) → cond b (Some x) (first (merge_of xs [])) ≡ least_version (cond b (Some x) (first xs)) None
      by true = refl
      by false = after [] in_order_nil
  first_weave x xs (y ∷ ys) before after h = by (version_cmp x y) refl (in_order_parts y ys h) (first_weave x xs ys before after (in_order_parts y ys h).1)
    where
      by : (o : Ordering) → version_cmp x y ≡ o → IsBefore y ys × AreInOrder ys → first (weave x (merge_of xs) ys) ≡ least_version (first (x ∷ xs)) (first ys)
          → first (choose_by_order o (x ∷ merge_of xs (y ∷ ys)) (x ∷ merge_of xs ys) (y ∷ weave x (merge_of xs) ys)) ≡ least_version (first (x ∷ xs)) (first (y ∷ ys))
      by Less is parts later = here (passes x.key)
        where
          here : (b : Bool) → cond b (Some x) (first (merge_of xs (y ∷ ys))) ≡ least_version (cond b (Some x) (first xs)) (first (y ∷ ys))
          here true = sym (before_first x (y ∷ ys) (is, before_more x y ys is parts.0))
          here false = after (y ∷ ys) h
      by Equal is parts later = here (passes x.key) (passes y.key) (ap passes (exact_bytes x.key y.key (both_equal (key_cmp x.key y.key) _ is).0))
        where
          here : (a b : Bool) → a ≡ b → cond a (Some x) (first (merge_of xs ys)) ≡ least_version (cond a (Some x) (first xs)) (cond b (Some y) (first ys))
          here true true same = sym (stays x y Equal (turned x y Equal is) refl)
          here true false same = absurd (true≢false same)
          here false true same = absurd (true≢false (sym same))
          here false false same = after ys parts.1
      by Greater is parts later = here (passes y.key)
        where
          less : version_cmp y x ≡ Less
          less = turned x y Greater is

          here : (b : Bool) → cond b (Some y) (first (weave x (merge_of xs) ys)) ≡ least_version (first (x ∷ xs)) (cond b (Some y) (first ys))
          here true = sym (behind_first y (x ∷ xs) (less, before_more y x xs less before))
          here false = later

  first_merge : (xs ys : List Version) → AreInOrder xs → AreInOrder ys → first (merge_of xs ys) ≡ least_version (first xs) (first ys)
  first_merge [] ys h k = refl
  first_merge (x ∷ xs) ys h k = let parts = in_order_parts x xs h in first_weave x xs ys parts.0 (λ zs z. first_merge xs zs parts.1 z) k

  first_passes : (vs : List Version) (v : Version) → first vs ≡ Some v → passes v.key ≡ true
  first_passes [] v is = absurd (none_is_some v is)
  first_passes (w ∷ ws) v is = by (passes w.key) refl is (first_passes ws v)
    where
      by : (b : Bool) → passes w.key ≡ b → cond b (Some w) (first ws) ≡ Some v → (first ws ≡ Some v → passes v.key ≡ true) → passes v.key ≡ true
      by true there is again = ap (λ (x : Version). passes x.key) (sym (some_is w v is)) ∙ there
      by false there is again = again is

  -- no version of its key stands before it
  first_alone : (vs : List Version) (v : Version) → first vs ≡ Some v → newest_of 1 v.key vs ≡ v ∷ []
  first_alone [] v is = absurd (none_is_some v is)
  first_alone (w ∷ ws) v is = by (passes w.key) refl is (first_alone ws v)
    where
      own : bytes_eq w.key w.key ≡ true
      own = (bytes_eq-Decides w.key w.key).1 refl

      by : (b : Bool) → passes w.key ≡ b → cond b (Some w) (first ws) ≡ Some v → (first ws ≡ Some v → newest_of 1 v.key ws ≡ v ∷ []) → newest_of 1 v.key (w ∷ ws) ≡ v ∷ []
      by true there is again = subst (λ (x : Version). newest_of 1 x.key (w ∷ ws) ≡ x ∷ []) (some_is w v is) (ap (λ b. take 1 (cond b (w ∷ of_key w.key ws) (of_key w.key ws))) own)
      by false short is again = ap (λ b. take 1 (cond b (w ∷ of_key v.key ws) (of_key v.key ws))) (other (bytes_eq w.key v.key) refl) ∙ again is
        where
          other : (b : Bool) → bytes_eq w.key v.key ≡ b → b ≡ false
          other true same = absurd (true≢false (sym (first_passes ws v is) ∙ ap passes (sym ((bytes_eq-Decides w.key v.key).0 same)) ∙ short))
          other false same = refl

module _ (above : Bool) (key : List ℕ) where
  next_woven : (versions : List Version) (parts : List (List Version)) → AreInOrder versions → AreAllInOrder parts → next_version above key (woven versions parts) ≡ least_next above key (next_version above key versions) parts
  next_woven versions [] h all = refl
  next_woven versions (part ∷ parts) h all =
      next_woven (merge_of versions part) parts (in_order-merge versions part h all.0) all.1 ∙ ap (λ o. least_next above key o parts) (first_merge (is_from above key) versions part h all.0)

  least_append : (least : Option Version) (xs ys : List (List Version)) → least_next above key least (xs ++ ys) ≡ least_next above key (least_next above key least xs) ys
  least_append least [] ys = refl
  least_append least (x ∷ xs) ys = least_append (least_version least (next_version above key x)) xs ys

  pub next_of_parts : (memory : List Version) (frozen tables : List (List Version)) (all : List Version) → AreInOrder memory → AreAllInOrder (frozen ++ tables) → AreMerged (memory ∷ frozen ++ tables) all
      → least_next above key (least_next above key (next_version above key memory) frozen) tables ≡ next_version above key all
  next_of_parts memory frozen tables all h hs merged =
      sym (least_append (next_version above key memory) frozen tables)
      ∙ sym (next_woven memory (frozen ++ tables) h hs)
      ∙ ap (next_version above key) (sym (woven_is memory (frozen ++ tables) all h hs merged))

  -- of the next key it is the newest version
  pub next_alone : (vs : List Version) (v : Version) → next_version above key vs ≡ Some v → newest_of 1 v.key vs ≡ v ∷ []
  next_alone = first_alone (is_from above key)

-- ---- words in their range

words_weave : (x : Version) (xs ys : List Version) → is_key x.key ≡ true → ((zs : List Version) → AreWords zs → AreWords (merge_of xs zs)) → AreWords ys → AreWords (weave x (merge_of xs) ys)
words_weave x xs [] word after words = and_from (is_key x.key) (list_all (λ v. is_key v.key) (merge_of xs [])) word (after [] refl)
words_weave x xs (y ∷ ys) word after words = by (version_cmp x y) (words_weave x xs ys word after parts.1)
  where
    parts : (is_key y.key ≡ true) × AreWords ys
    parts = and_parts (is_key y.key) (list_all (λ v. is_key v.key) ys) words

    by : (o : Ordering) → AreWords (weave x (merge_of xs) ys) → AreWords (choose_by_order o (x ∷ merge_of xs (y ∷ ys)) (x ∷ merge_of xs ys) (y ∷ weave x (merge_of xs) ys))
    by Less later = and_from (is_key x.key) (list_all (λ v. is_key v.key) (merge_of xs (y ∷ ys))) word (after (y ∷ ys) words)
    by Equal later = and_from (is_key x.key) (list_all (λ v. is_key v.key) (merge_of xs ys)) word (after ys parts.1)
    by Greater later = and_from (is_key y.key) (list_all (λ v. is_key v.key) (weave x (merge_of xs) ys)) parts.0 later

words_merge : (xs ys : List Version) → AreWords xs → AreWords ys → AreWords (merge_of xs ys)
words_merge [] ys first second = second
words_merge (x ∷ xs) ys first second =
    let parts = and_parts (is_key x.key) (list_all (λ v. is_key v.key) xs) first in
    words_weave x xs ys parts.0 (λ zs words. words_merge xs zs parts.1 words) second

words_woven : (versions : List Version) (parts : List (List Version)) → AreWords versions → AllByRecursion AreWords parts → AreWords (woven versions parts)
words_woven versions [] words all = words
words_woven versions (part ∷ parts) words all = words_woven (merge_of versions part) parts (words_merge versions part words all.0) all.1

pub words_merged : (versions : List Version) (parts : List (List Version)) (all : List Version) → AreInOrder versions → AreAllInOrder parts → AreWords versions → AllByRecursion AreWords parts → AreMerged (versions ∷ parts) all → AreWords all
words_merged versions parts all h hs words rest merged = subst AreWords (sym (woven_is versions parts all h hs merged)) (words_woven versions parts words rest)

-- what is found in a table may be copied
copyable : (passes : Version → Bool) (vs : List Version) → list_all has_words vs ≡ true → IfSome (find passes vs) (λ v. has_words v ≡ true)
copyable passes [] all = tt
copyable passes (v ∷ vs) all = by (passes v) (copyable passes vs parts.1)
  where
    parts : (has_words v ≡ true) × (list_all has_words vs ≡ true)
    parts = and_parts (has_words v) (list_all has_words vs) all

    by : (b : Bool) → IfSome (find passes vs) (λ w. has_words w ≡ true) → IfSome (cond b (Some v) (find passes vs)) (λ w. has_words w ≡ true)
    by true rest = parts.0
    by false rest = rest

pub next_copyable : (above : Bool) (key : List ℕ) (vs : List Version) (found : Option VersionRef) → list_all has_words vs ≡ true → option_map seen found ≡ next_version above key vs → IsCopyable found
next_copyable above key vs None all is = tt
next_copyable above key vs (Some v) all is = subst (λ (o : Option Version). IfSome o (λ w. has_words w ≡ true)) (sym is) (copyable (λ w. is_from above key w.key) vs all)
