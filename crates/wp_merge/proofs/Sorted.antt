-- Sorted versions: their order, and that there is one such list.
use Rattle.std.proofs.Common.{◌≡◌, ℕ, Bool, true, false, cond, ◌==◌, Less, Equal, Greater, List, [], ◌∷◌, ◌++◌, Option, Some, None, refl, sym, ap, ◌∙◌}
use Rattle.std.specs.Option.{option_or}
use Rattle.std.specs.declared.cmp.Ordering.{Ordering}
use Rattle.std.specs.Ordering.{nat_cmp, ordering_reverse}
use Rattle.std.specs.Str.{bytes_eq}
use Rattle.std.proofs.lemmas.Bool.{and_from, eq-eqb}
use Rattle.std.proofs.lemmas.Cmp.{ranked}
use Rattle.std.proofs.lemmas.List.Concat.{flat_map-cons}
use Rattle.std.proofs.lemmas.Map.Lookups.{exact_bytes}
use Rattle.std.proofs.lemmas.Slice.Eq.{bytes_eq-Decides}
use Rattle.wp_model.specs.Batch.{key_cmp}
use Rattle.wp_model.specs.declared.version.Version.{Version}
use Rattle.wp_model.specs.Versions.{AreInOrder, version_cmp, version_at}
use Rattle.wp_model.proofs.VersionLists.{IsBefore, in_order_nil, in_order_parts, in_order_cons, or_cond, version_total}
use Rattle.wp_merge.specs.Merge.{AreMerged, first_at, joined, sorted_of}
use Rattle.wp_merge.proofs.Merged.{both_equal, before_more, in_order-merge, is_here, missing, at_merge}

-- ---- the sorted list

pub in_order_sorted : (versions : List Version) → AreInOrder (sorted_of versions)
in_order_sorted [] = in_order_nil
in_order_sorted (v ∷ versions) = in_order-merge (v ∷ []) (sorted_of versions) (in_order_cons v [] tt in_order_nil) (in_order_sorted versions)

pub at_sorted : (versions : List Version) (key : List ℕ) (n : ℕ) → version_at (sorted_of versions) key n ≡ version_at versions key n
at_sorted [] key n = refl
at_sorted (v ∷ versions) key n =
    at_merge key n (v ∷ []) (sorted_of versions) (in_order_cons v [] tt in_order_nil)
    ∙ sym (or_cond (is_here key n v) v.value None (version_at (sorted_of versions) key n))
    ∙ ap (cond (is_here key n v) (Some v.value)) (at_sorted versions key n)

-- ---- lists one after the other

pub at_append : (xs ys : List Version) (key : List ℕ) (n : ℕ) → version_at (xs ++ ys) key n ≡ option_or (version_at xs key n) (version_at ys key n)
at_append [] ys key n = refl
at_append (x ∷ xs) ys key n =
    ap (cond (is_here key n x) (Some x.value)) (at_append xs ys key n) ∙ or_cond (is_here key n x) x.value (version_at xs key n) (version_at ys key n)

at_joined : (sources : List (List Version)) (key : List ℕ) (n : ℕ) → version_at (joined sources) key n ≡ first_at sources key n
at_joined [] key n = refl
at_joined (source ∷ sources) key n =
    ap (λ (vs : List Version). version_at vs key n) (flat_map-cons (λ (s : List Version). s) source sources)
    ∙ at_append source (joined sources) key n
    ∙ ap (option_or (version_at source key n)) (at_joined sources key n)

-- ---- one list

pub own_place : (v : Version) → is_here v.key v.number v ≡ true
own_place v = and_from (bytes_eq v.key v.key) (v.number == v.number) ((bytes_eq-Decides v.key v.key).1 refl) (eq-eqb v.number v.number refl)

pub own_value : (v : Version) (vs : List Version) → version_at (v ∷ vs) v.key v.number ≡ Some v.value
own_value v vs = ap (λ (b : Bool). cond b (Some v.value) (version_at vs v.key v.number)) (own_place v)

-- a version that is before all of the list is not in it
not_among : (v : Version) (vs others : List Version) → IsBefore v others → ((key : List ℕ) (n : ℕ) → version_at (v ∷ vs) key n ≡ version_at others key n) → ⊥
not_among v vs others before same =
    let there : Some v.value ≡ version_at others v.key v.number = sym (own_value v vs) ∙ same v.key v.number in
    let none = missing v.key v.number v others before (own_place v) in
    absurd (cc)

same_option : (a b : Option (List ℕ)) → Some a ≡ Some b → a ≡ b
same_option a b e = cc

same_version : (x y : Version) (xs ys : List Version) → version_cmp x y ≡ Equal → ((key : List ℕ) (n : ℕ) → version_at (x ∷ xs) key n ≡ version_at (y ∷ ys) key n) → x ≡ y
same_version x y xs ys equal same =
    let both = both_equal (key_cmp x.key y.key) (nat_cmp y.number x.number) equal in
    let keys : x.key ≡ y.key = exact_bytes x.key y.key both.0 in
    let numbers : x.number ≡ y.number = sym (ranked y.number x.number Equal (sym both.1)) in
    let at_y : version_at (y ∷ ys) x.key x.number ≡ Some y.value = rw (keys, numbers) (own_value y ys) in
    let values : x.value ≡ y.value = same_option x.value y.value (sym (own_value x xs) ∙ same x.key x.number ∙ at_y) in
    λ i. record { key = keys i; number = numbers i; value = values i }

rest_same : (v : Version) (xs ys : List Version) → IsBefore v xs → IsBefore v ys → (key : List ℕ) (n : ℕ) → version_at (v ∷ xs) key n ≡ version_at (v ∷ ys) key n → version_at xs key n ≡ version_at ys key n
rest_same v xs ys before_xs before_ys key n = by (is_here key n v) refl
  where
    by : (b : Bool) → is_here key n v ≡ b → cond b (Some v.value) (version_at xs key n) ≡ cond b (Some v.value) (version_at ys key n) → version_at xs key n ≡ version_at ys key n
    by true here e = missing key n v xs before_xs here ∙ sym (missing key n v ys before_ys here)
    by false here e = e

-- lists in order that have the same under each key and number are one list
pub in_order_same : (xs ys : List Version) → AreInOrder xs → AreInOrder ys → ((key : List ℕ) (n : ℕ) → version_at xs key n ≡ version_at ys key n) → xs ≡ ys
in_order_same [] [] first second same = refl
in_order_same [] (y ∷ ys) first second same = absurd (not_among y ys [] tt (λ key n. sym (same key n)))
in_order_same (x ∷ xs) [] first second same = absurd (not_among x xs [] tt same)
in_order_same (x ∷ xs) (y ∷ ys) first second same = by (version_cmp x y) refl (λ tails. in_order_same xs ys (in_order_parts x xs first).1 (in_order_parts y ys second).1 tails)
  where
    by : (o : Ordering) → version_cmp x y ≡ o → (((key : List ℕ) (n : ℕ) → version_at xs key n ≡ version_at ys key n) → xs ≡ ys) → x ∷ xs ≡ y ∷ ys
    by Less is again = absurd (not_among x xs (y ∷ ys) (is, before_more x y ys is (in_order_parts y ys second).0) same)
    by Greater is again =
        let less : version_cmp y x ≡ Less = version_total.antisymm y x ∙ ap ordering_reverse is in
        absurd (not_among y ys (x ∷ xs) (less, before_more y x xs less (in_order_parts x xs first).0) (λ key n. sym (same key n)))
    by Equal is again =
        let heads : x ≡ y = same_version x y xs ys is same in
        let before : IsBefore x ys = rw heads (in_order_parts y ys second).0 in
        let all : (key : List ℕ) (n : ℕ) → version_at (x ∷ xs) key n ≡ version_at (x ∷ ys) key n = λ key n. same key n ∙ ap (λ (v : Version). version_at (v ∷ ys) key n) (sym heads) in
        let tails : xs ≡ ys = again (λ key n. rest_same x xs ys (in_order_parts x xs first).0 before key n (all key n)) in
        λ i. heads i ∷ tails i

-- ---- merged lists

pub merged_sorted : (sources : List (List Version)) → AreMerged sources (sorted_of (joined sources))
merged_sorted sources = record { in_order = in_order_sorted (joined sources); each = λ key n. at_sorted (joined sources) key n ∙ at_joined sources key n }

pub merged_is_sorted : (sources : List (List Version)) (all : List Version) → AreMerged sources all → all ≡ sorted_of (joined sources)
merged_is_sorted sources all merged =
    let sorted = merged_sorted sources in
    in_order_same all (sorted_of (joined sources)) merged.in_order sorted.in_order (λ key n. merged.each key n ∙ sym (sorted.each key n))
