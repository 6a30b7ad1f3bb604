-- Lists of versions, and how many are in them.
use Rattle.std.proofs.Common.{◌≡◌, inl, inr, ℕ, zero, suc, ◌<◌, ◌≤◌, ◌==◌, ◌&&◌, Bool, true, false, cond, ne_eqb, Less, Equal, Greater, List, [], ◌∷◌, ◌++◌, length, drop, Option, Some, None, refl, sym, subst, ap, ◌∙◌, arith}
use Rattle.std.proofs.lemmas.Bool.{and_parts, leb-true}
use Rattle.std.specs.declared.cmp.Ordering.{Ordering}
use Rattle.std.specs.Prelude.{slice_get}
use Rattle.std.specs.List.{list_all}
use Rattle.std.specs.Option.{option_or}
use Rattle.std.specs.Str.{bytes_eq}
use Rattle.wp_model.specs.declared.change.Change.{Change}
use Rattle.wp_model.specs.declared.entry.Entry.{Entry}
use Rattle.wp_model.specs.declared.version.Version.{Version}
use Rattle.wp_model.specs.Batch.{key_of, change_to, are_ascending}
use Rattle.wp_model.specs.Flushed.{versions_under, versions_after, later_versions}
use Rattle.wp_model.specs.Legal.{IsLegal, changes_in}
use Rattle.wp_model.specs.Versions.{AreInOrder, version_cmp, version_at}
use Rattle.wp_model.proofs.BatchLemmas.{ascending_rest}
use Rattle.wp_model.proofs.VersionLists.{IsBefore, in_order_parts}
use Rattle.wp_merge.specs.Merge.{merge_of, sorted_of, weave, choose_by_order}
use Rattle.wp_merge.proofs.Merged.{is_here, missing, same_place}
use Rattle.wp_merge.proofs.Sorted.{at_append, own_place, own_value, at_sorted, in_order_sorted, in_order_same}
use Rattle.wp_table.specs.Table.{is_flushed}
use Rattle.wp_cover.proofs.Order.{key_itself}
use Rattle.wp_cover.proofs.Presence.{none_after}
use Rattle.wp_core.specs.Lists.{IsIn}
use Rattle.wp_core.proofs.PublishesVersions.{at_under}

abbrev pub Found : Type 0
Found = Option (Option (List ℕ))

-- ---- lists that have nothing, and lists that have something

pub empty_list : (versions : List Version) → ((key : List ℕ) (p : ℕ) → version_at versions key p ≡ None) → versions ≡ []
empty_list [] none = refl
empty_list (v ∷ versions) none = let there = own_value v versions in let gone = none v.key v.number in absurd cc

-- what each version in order has, where it is found
pub all_found : (P : Version → Bool) (versions : List Version) → AreInOrder versions → ((v : Version) → version_at versions v.key v.number ≡ Some v.value → P v ≡ true) → list_all P versions ≡ true
all_found P [] in_order passes = refl
all_found P (v ∷ versions) in_order passes =
    let parts = in_order_parts v versions in_order in
    let here : P v ≡ true = passes v (own_value v versions) in
    let rest : list_all P versions ≡ true = all_found P versions parts.1 (λ w there. passes w (by w there (is_here w.key w.number v) refl parts.0)) in
    rw (here, rest) refl
  where
    by : (w : Version) → version_at versions w.key w.number ≡ Some w.value → (b : Bool) → is_here w.key w.number v ≡ b → IsBefore v versions → version_at (v ∷ versions) w.key w.number ≡ Some w.value
    by w there true is before = let none = missing w.key w.number v versions before is in absurd cc
    by w there false is before = ap (λ (b : Bool). cond b (Some v.value) (version_at versions w.key w.number)) is ∙ there

-- what is in a list in order is found there
pub at_own : (versions : List Version) → AreInOrder versions → (v : Version) → IsIn v versions → version_at versions v.key v.number ≡ Some v.value
at_own [] ordered v there = absurd there
at_own (w ∷ versions) ordered v (inl same) = subst (λ (x : Version). version_at (w ∷ versions) x.key x.number ≡ Some x.value) same (own_value w versions)
at_own (w ∷ versions) ordered v (inr rest) = let parts = in_order_parts w versions ordered in by (at_own versions parts.1 v rest) (is_here v.key v.number w) refl parts.0
  where
    by : version_at versions v.key v.number ≡ Some v.value → (b : Bool) → is_here v.key v.number w ≡ b → IsBefore w versions → version_at (w ∷ versions) v.key v.number ≡ Some v.value
    by there true is before = let none = missing v.key v.number w versions before is in absurd cc
    by there false is before = ap (λ (b : Bool). cond b (Some w.value) (version_at versions v.key v.number)) is ∙ there

-- ---- lists that sort alike

-- lists that are found alike
pub same_sorted : (xs ys : List Version) → ((key : List ℕ) (p : ℕ) → version_at xs key p ≡ version_at ys key p) → sorted_of xs ≡ sorted_of ys
same_sorted xs ys same = in_order_same (sorted_of xs) (sorted_of ys) (in_order_sorted xs) (in_order_sorted ys) (λ key p. at_sorted xs key p ∙ same key p ∙ sym (at_sorted ys key p))

-- a list in order is sorted
pub sorted_same : (versions : List Version) → AreInOrder versions → sorted_of versions ≡ versions
sorted_same versions ordered = in_order_same (sorted_of versions) versions (in_order_sorted versions) ordered (λ key p. at_sorted versions key p)

-- ---- how many versions are sorted

-- no place stands twice
abbrev pub Distinct : List Version → Type 0
Distinct [] = Unit {0}
Distinct (v ∷ versions) = (version_at versions v.key v.number ≡ None) × Distinct versions

none_first : (v : Version) (versions : List Version) (key : List ℕ) (n : ℕ) → version_at (v ∷ versions) key n ≡ None → (is_here key n v ≡ false) × (version_at versions key n ≡ None)
none_first v versions key n none = by (is_here key n v) refl none
  where
    by : (b : Bool) → is_here key n v ≡ b → cond b (Some v.value) (version_at versions key n) ≡ None → (is_here key n v ≡ false) × (version_at versions key n ≡ None)
    by true is e = absurd cc
    by false is e = (is, e)

length_with : (v : Version) (versions : List Version) → version_at versions v.key v.number ≡ None → length (merge_of (v ∷ []) versions) ≡ suc (length versions)
length_with v [] none = refl
length_with v (w ∷ versions) none = by (version_cmp v w) refl (length_with v versions (none_first w versions v.key v.number none).1)
  where
    by : (o : Ordering) → version_cmp v w ≡ o → length (merge_of (v ∷ []) versions) ≡ suc (length versions) → length (choose_by_order o (v ∷ w ∷ versions) (v ∷ versions) (w ∷ weave v (merge_of []) versions)) ≡ suc (suc (length versions))
    by Less is rest = refl
    by Equal is rest =
        let here : is_here v.key v.number w ≡ true = sym (same_place v.key v.number v w is) ∙ own_place v in
        let apart = (none_first w versions v.key v.number none).0 in
        absurd cc
    by Greater is rest = ap (λ (n : ℕ). suc n) rest

pub length_sorted : (versions : List Version) → Distinct versions → length (sorted_of versions) ≡ length versions
length_sorted [] distinct = refl
length_sorted (v ∷ versions) distinct =
    length_with v (sorted_of versions) (at_sorted versions v.key v.number ∙ distinct.0) ∙ ap (λ (n : ℕ). suc n) (length_sorted versions distinct.1)

-- ---- the versions of entries stand once each

-- of entries after n, none has a version up to n
after_low : (n : ℕ) (entries : List Entry) (key : List ℕ) (p : ℕ) → p ≤ n → version_at (versions_after n entries) key p ≡ None
after_low n [] key p low = refl
after_low n (entry ∷ entries) key p low =
    at_append (versions_under (suc n) (changes_in entry)) (versions_after (suc n) entries) key p
    ∙ ap (λ (o : Found). option_or o (version_at (versions_after (suc n) entries) key p))
    (at_under (suc n) (changes_in entry) key p ∙ ap (λ (b : Bool). cond b (change_to (changes_in entry) key) None) (ne_eqb (suc n) p (λ e. absurd (omega (arith, e, low)))))
    ∙ after_low (suc n) entries key p (omega (arith, low))

distinct_under : (n : ℕ) (changes : List Change) (rest : List Version) → are_ascending changes ≡ true → ((key : List ℕ) → version_at rest key n ≡ None) → Distinct rest → Distinct (versions_under n changes ++ rest)
distinct_under n [] rest ascending none distinct = distinct
distinct_under n (first ∷ others) rest ascending none distinct = (
  at_append (versions_under n others) rest (key_of first) n
      ∙ ap (λ (o : Found). option_or o (version_at rest (key_of first) n)) (at_under n others (key_of first) n ∙ ap (λ (o : Found). cond (n == n) o None) (none_after (key_of first) first others ascending (key_itself (key_of first))) ∙ same (n == n))
      ∙ none (key_of first),
  distinct_under n others rest (ascending_rest first others ascending) none distinct,
)
  where
    same : (b : Bool) → let nothing : Found = None in cond b nothing nothing ≡ nothing
    same true = refl
    same false = refl

-- the changes of each of the entries ascend
abbrev pub AscendInEach : List Entry → Type 0
AscendInEach [] = Unit {0}
AscendInEach (entry ∷ entries) = (are_ascending (changes_in entry) ≡ true) × AscendInEach entries

pub distinct_after : (n : ℕ) (entries : List Entry) → AscendInEach entries → Distinct (versions_after n entries)
distinct_after n [] each = tt
distinct_after n (entry ∷ entries) each =
    distinct_under (suc n) (changes_in entry) (versions_after (suc n) entries) each.0
    (λ key. after_low (suc n) entries key (suc n) (omega arith)) (distinct_after (suc n) entries each.1)

pub ascend_from : (history entries : List Entry) → ((n : ℕ) (entry : Entry) → slice_get entries n ≡ Some entry → are_ascending (changes_in entry) ≡ true) → AscendInEach entries
ascend_from history [] each = tt
ascend_from history (entry ∷ entries) each = (each 0 entry refl, ascend_from history entries (λ n e there. each (suc n) e there))

ascend_dropped : (n : ℕ) (entries : List Entry) → AscendInEach entries → AscendInEach (drop n entries)
ascend_dropped zero entries each = each
ascend_dropped (suc n) [] each = tt
ascend_dropped (suc n) (entry ∷ entries) each = ascend_dropped n entries each.1

pub distinct_later : (history : List Entry) (n : ℕ) → IsLegal history → Distinct (later_versions history n)
distinct_later history n legal =
    distinct_after n (drop n history) (ascend_dropped n history (ascend_from history history (λ m entry there. (legal.each m entry there).orderly.ascending)))

-- ---- versions up to a number

pub none_past : (flushed : ℕ) (versions : List Version) → list_all (is_flushed flushed) versions ≡ true → (key : List ℕ) (p : ℕ) → flushed < p → version_at versions key p ≡ None
none_past flushed [] all key p above = refl
none_past flushed (v ∷ versions) all key p above =
    let parts = and_parts (is_flushed flushed v) (list_all (is_flushed flushed) versions) all in
    let low = leb-true v.number flushed parts.0 in
    let other : (v.number == p) ≡ false = ne_eqb v.number p (λ same. absurd (omega (arith, same, low, above))) in
    rw (other, none_past flushed versions parts.1 key p above) (past (bytes_eq v.key key))
  where
    past : (b : Bool) → let nothing : Found = None in cond (b && false) (Some v.value) nothing ≡ nothing
    past true = refl
    past false = refl
