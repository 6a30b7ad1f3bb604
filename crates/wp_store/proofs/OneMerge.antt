-- The versions of lists, merged, are one list, and it is the lists merged one by one.
use Rattle.std.proofs.Common.{◌≡◌, ℕ, Bool, true, false, cond, ◌==◌, Less, Equal, Greater, List, [], ◌∷◌, Option, Some, None, refl, sym, ap, subst, ◌∙◌}
use Rattle.std.specs.Option.{option_or}
use Rattle.std.specs.List.{AllByRecursion}
use Rattle.std.specs.declared.cmp.Ordering.{Ordering}
use Rattle.std.specs.Ordering.{nat_cmp, ordering_reverse}
use Rattle.std.specs.Str.{bytes_eq}
use Rattle.std.proofs.lemmas.Bool.{and_from, eq-eqb}
use Rattle.std.proofs.lemmas.Cmp.{ranked}
use Rattle.std.proofs.lemmas.Map.Lookups.{exact_bytes}
use Rattle.std.proofs.lemmas.Slice.Eq.{bytes_eq-Decides}
use Rattle.wp_model.specs.Batch.{key_cmp}
use Rattle.wp_model.specs.declared.version.Version.{Version}
use Rattle.wp_model.specs.Versions.{AreInOrder, version_cmp, version_at}
use Rattle.wp_model.proofs.VersionLists.{IsBefore, in_order_nil, in_order_parts, version_total}
use Rattle.wp_merge.specs.Merge.{AreMerged, first_at, merge_of}
use Rattle.wp_merge.proofs.Merged.{both_equal, before_more, is_here, missing, in_order-merge, at_merge}

-- ---- lists in order with the same versions

none_is_some : (x : Option (List ℕ)) → None ≡ Some x → ⊥
none_is_some x h = absurd cc

here_itself : (v : Version) → is_here v.key v.number v ≡ true
here_itself v = and_from (bytes_eq v.key v.key) (v.number == v.number) ((bytes_eq-Decides v.key v.key).1 refl) (eq-eqb v.number v.number refl)

at_front : (v : Version) (vs : List Version) → version_at (v ∷ vs) v.key v.number ≡ Some v.value
at_front v vs = rw (here_itself v) refl

-- the first of these is before the others, which have other places
apart : (x y : Version) (xs ys : List Version) → version_cmp x y ≡ Less → IsBefore y ys → version_at (x ∷ xs) x.key x.number ≡ version_at (y ∷ ys) x.key x.number → ⊥
apart x y xs ys less before same =
    none_is_some x.value (sym (missing x.key x.number x (y ∷ ys) (less, before_more x y ys less before) (here_itself x)) ∙ sym same ∙ at_front x xs)

same_front : (x y : Version) (xs ys : List Version) → version_cmp x y ≡ Equal → version_at (x ∷ xs) x.key x.number ≡ version_at (y ∷ ys) x.key x.number → x ≡ y
same_front x y xs ys equal same =
    let both = both_equal (key_cmp x.key y.key) (nat_cmp y.number x.number) equal in
    let keys : x.key ≡ y.key = exact_bytes x.key y.key both.0 in
    let numbers : y.number ≡ x.number = ranked y.number x.number Equal (sym both.1) in
    let there : version_at (y ∷ ys) x.key x.number ≡ Some y.value = (λ i. version_at (y ∷ ys) (keys i) (sym numbers i)) ∙ at_front y ys in
    let values : x.value ≡ y.value = some_is (sym (at_front x xs) ∙ same ∙ there) in
    λ i. record { key = keys i; number = sym numbers i; value = values i }
  where
    some_is : Some x.value ≡ Some y.value → x.value ≡ y.value
    some_is e = cc

same_rest : (x : Version) (xs ys : List Version) → IsBefore x xs → IsBefore x ys → ((key : List ℕ) (n : ℕ) → version_at (x ∷ xs) key n ≡ version_at (x ∷ ys) key n) → (key : List ℕ) (n : ℕ) → version_at xs key n ≡ version_at ys key n
same_rest x xs ys first second same key n = by (is_here key n x) refl (same key n)
  where
    by : (b : Bool) → is_here key n x ≡ b → cond b (Some x.value) (version_at xs key n) ≡ cond b (Some x.value) (version_at ys key n) → version_at xs key n ≡ version_at ys key n
    by true here e = missing key n x xs first here ∙ sym (missing key n x ys second here)
    by false here e = e

pub one_list : (xs ys : List Version) → AreInOrder xs → AreInOrder ys → ((key : List ℕ) (n : ℕ) → version_at xs key n ≡ version_at ys key n) → xs ≡ ys
one_list [] [] first second same = refl
one_list [] (y ∷ ys) first second same = absurd (none_is_some y.value (same y.key y.number ∙ at_front y ys))
one_list (x ∷ xs) [] first second same = absurd (none_is_some x.value (sym (same x.key x.number) ∙ at_front x xs))
one_list (x ∷ xs) (y ∷ ys) first second same =
    let before = in_order_parts x xs first in
    let others = in_order_parts y ys second in
    by (version_cmp x y) refl before others (one_list xs ys before.1 others.1)
  where
    by : (o : Ordering) → version_cmp x y ≡ o → IsBefore x xs × AreInOrder xs → IsBefore y ys × AreInOrder ys → (((key : List ℕ) (n : ℕ) → version_at xs key n ≡ version_at ys key n) → xs ≡ ys) → x ∷ xs ≡ y ∷ ys
    by Less is before others rest = absurd (apart x y xs ys is others.0 (same x.key x.number))
    by Greater is before others rest =
        absurd (apart y x ys xs (version_total.antisymm y x ∙ ap ordering_reverse is) before.0 (sym (same y.key y.number)))
    by Equal is before others rest =
        let front = same_front x y xs ys is (same x.key x.number) in
        let behind = subst (λ (z : Version). ((key : List ℕ) (n : ℕ) → version_at (x ∷ xs) key n ≡ version_at (z ∷ ys) key n) × IsBefore z ys) (sym front) (same, others.0) in
        let others_same = rest (same_rest x xs ys before.0 behind.1 behind.0) in
        λ i. front i ∷ others_same i

-- ---- the lists merged one by one

abbrev pub AreAllInOrder : List (List Version) → Type 0
AreAllInOrder = AllByRecursion AreInOrder

abbrev pub merged_of : List (List Version) → List Version
merged_of [] = []
merged_of (source ∷ sources) = merge_of source (merged_of sources)

pub in_order-merged : (sources : List (List Version)) → AreAllInOrder sources → AreInOrder (merged_of sources)
in_order-merged [] h = in_order_nil
in_order-merged (s ∷ ss) h = in_order-merge s (merged_of ss) h.0 (in_order-merged ss h.1)

pub at_merged : (key : List ℕ) (n : ℕ) (sources : List (List Version)) → AreAllInOrder sources → version_at (merged_of sources) key n ≡ first_at sources key n
at_merged key n [] h = refl
at_merged key n (s ∷ ss) h = at_merge key n s (merged_of ss) h.0 ∙ ap (option_or (version_at s key n)) (at_merged key n ss h.1)

pub merged_is : (sources : List (List Version)) (all : List Version) → AreAllInOrder sources → AreMerged sources all → all ≡ merged_of sources
merged_is sources all h is = one_list all (merged_of sources) is.in_order (in_order-merged sources h) (λ key n. is.each key n ∙ sym (at_merged key n sources h))

-- ---- one list alone

or_none : (x : Option (Option (List ℕ))) → option_or x None ≡ x
or_none None = refl
or_none (Some found) = refl

pub merged_alone : (versions all : List Version) → AreInOrder versions → AreMerged (versions ∷ []) all → all ≡ versions
merged_alone versions all in_order is = one_list all versions is.in_order in_order (λ key n. is.each key n ∙ or_none (version_at versions key n))
