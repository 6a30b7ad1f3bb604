-- What the order of versions says of what is under a key and a number.
use Rattle.std.proofs.Common.{◌≡◌, ℕ, zero, suc, ◌<◌, ◌≤◌, Bool, true, false, ◌==◌, ◌&&◌, cond, Less, Equal, Greater, List, [], ◌∷◌, length, get_or, Some, None, Err, refl, sym, ap, ◌∙◌, inl, inr, arith}
use Rattle.std.specs.declared.cmp.Ordering.{Ordering}
use Rattle.std.specs.Cmp.{Equal-is, tied_then}
use Rattle.std.specs.Ordering.{nat_cmp, ordering_then, ordering_index, is_eq}
use Rattle.std.specs.Str.{bytes_eq}
use Rattle.std.specs.List.Sorted.{IsNonDecreasingBy, IsBinarySearchResult}
use Rattle.std.proofs.lemmas.Bool.{cases_lt, and_parts, and_from, eqb-true, eq-eqb}
use Rattle.std.proofs.lemmas.Bool.Decides.{nat_tests}
use Rattle.std.proofs.lemmas.Cmp.{ranked, tied_itself, alike_right, nat_list_cmp_total}
use Rattle.std.proofs.lemmas.Map.Text.{is_eq-slice_cmp}
use Rattle.std.proofs.lemmas.Slice.Eq.{bytes_eq-Decides}
use Rattle.wp_model.specs.declared.version.Version.{Version}
use Rattle.wp_model.specs.Batch.{key_cmp}
use Rattle.wp_model.specs.Versions.{AreInOrder, version_cmp, version_at}
use Rattle.wp_model.proofs.VersionLists.{IsBefore, in_order_parts, version_total}
use Rattle.wp_cover.specs.Present.{place_cmp}

pub same_key : (a b : List ℕ) → bytes_eq a b ≡ true → a ≡ b
same_key a b h = (bytes_eq-Decides a b).0 h

pub key_itself : (a : List ℕ) → bytes_eq a a ≡ true
key_itself a = (bytes_eq-Decides a a).1 refl

abbrev pub is_here : List ℕ → ℕ → Version → Bool
is_here key n v = bytes_eq v.key key && (v.number == n)

pub record IsAt (key : List ℕ) (n : ℕ) (v : Version) : Type 0 where
  pub key_is : v.key ≡ key
  pub number_is : v.number ≡ n

pub at_here : (key : List ℕ) (n : ℕ) (v : Version) → is_here key n v ≡ true → IsAt key n v
at_here key n v h =
    let parts = and_parts (bytes_eq v.key key) (v.number == n) h in
    record { key_is = same_key v.key key parts.0; number_is = eqb-true v.number n parts.1 }

pub here_itself : (v : Version) → is_here v.key v.number v ≡ true
here_itself v = and_from (bytes_eq v.key v.key) (v.number == v.number) (key_itself v.key) (eq-eqb v.number v.number refl)

-- of two versions of a key the one that is first has the greater number
lesser_number : (v w : Version) → version_cmp v w ≡ Less → v.key ≡ w.key → w.number < v.number
lesser_number v w less same =
    let tied : key_cmp v.key w.key ≡ Equal = ap (λ k. key_cmp k w.key) same ∙ tied_itself nat_list_cmp_total w.key in
    ranked w.number v.number Less (sym less ∙ ap (λ o. ordering_then o (nat_cmp w.number v.number)) tied)

-- behind a version of the key nothing is under its number or a greater one
pub none_behind : (key : List ℕ) (n : ℕ) (v : Version) (vs : List Version) → IsBefore v vs → bytes_eq v.key key ≡ true → v.number ≤ n → version_at vs key n ≡ None
none_behind key n v [] before same le = refl
none_behind key n v (w ∷ ws) before same le = by (is_here key n w) refl (none_behind key n v ws before.1 same le)
  where
    by : (b : Bool) → is_here key n w ≡ b → version_at ws key n ≡ None → cond b (Some w.value) (version_at ws key n) ≡ None
    by false e rest = rest
    by true e rest =
        let at = at_here key n w e in
        let lesser = lesser_number v w before.0 (same_key v.key key same ∙ sym at.key_is) in
        absurd (omega (arith, at.number_is))

-- ---- what a search finds

module _ (key : List ℕ) (n : ℕ) where
  -- the place itself, as a version
  abbrev place : Version
  place = record { key = key; number = n; value = None }

  nat_equal : (a b : ℕ) → is_eq (nat_cmp a b) ≡ (b == a)
  nat_equal a b = grind (arith, nat_tests)

  equal_here : (v : Version) → is_eq (place_cmp key n v) ≡ is_here key n v
  equal_here v = sym (tied_then (key_cmp v.key key) (nat_cmp n v.number)) ∙ (λ i. is_eq-slice_cmp v.key key i && nat_equal n v.number i)

  index_rises : (v w : Version) → version_cmp v w ≡ Less → (o : Ordering) → place_cmp key n w ≡ o → ordering_index (place_cmp key n v) ≤ ordering_index o
  index_rises v w less Less e = let first : place_cmp key n v ≡ Less = version_total.trans v w place less e in omega (arith, ap ordering_index first)
  index_rises v w less Equal e = let first : place_cmp key n v ≡ Less = sym (alike_right version_total w place v e) ∙ less in omega (arith, ap ordering_index first)
  index_rises v w less Greater e = at_most (place_cmp key n v)
    where
      at_most : (o : Ordering) → ordering_index o ≤ 2
      at_most Less = omega arith
      at_most Equal = omega arith
      at_most Greater = omega arith

  before_at : (v : Version) (vs : List Version) (j : ℕ) (d : Version) → IsBefore v vs → j < length vs → version_cmp v (get_or vs j d) ≡ Less
  before_at v [] j d before lt = absurd (omega arith)
  before_at v (w ∷ ws) zero d before lt = before.0
  before_at v (w ∷ ws) (suc j) d before lt = before_at v ws j d before.1 (omega arith)

  rises : (vs : List Version) → AreInOrder vs → IsNonDecreasingBy (λ v. ordering_index (place_cmp key n v)) vs
  rises [] order i j d le lt = absurd (omega arith)
  rises (v ∷ vs) order zero zero d le lt = omega arith
  rises (v ∷ vs) order zero (suc j) d le lt = index_rises v (get_or vs j d) (before_at v vs j d (in_order_parts v vs order).0 (omega arith)) (place_cmp key n (get_or vs j d)) refl
  rises (v ∷ vs) order (suc i) zero d le lt = absurd (omega arith)
  rises (v ∷ vs) order (suc i) (suc j) d le lt = rises vs (in_order_parts v vs order).1 i j d (omega arith) (omega arith)

  -- at the version that is equal to the place
  pub found_at : (vs : List Version) (i : ℕ) (d : Version) → AreInOrder vs → i < length vs → place_cmp key n (get_or vs i d) ≡ Equal → version_at vs key n ≡ Some (get_or vs i d).value
  found_at [] i d order lt equal = absurd (omega arith)
  found_at (v ∷ vs) zero d order lt equal = ap (λ b. cond b (Some v.value) (version_at vs key n)) (sym (equal_here v) ∙ ap is_eq equal)
  found_at (v ∷ vs) (suc i) d order lt equal = by (is_here key n v) refl (found_at vs i d (in_order_parts v vs order).1 (omega arith) equal)
    where
      by : (b : Bool) → is_here key n v ≡ b → version_at vs key n ≡ Some (get_or vs i d).value → cond b (Some v.value) (version_at vs key n) ≡ Some (get_or vs i d).value
      by false e rest = rest
      by true e rest =
          let at = at_here key n v e in
          let none = none_behind key n v vs (in_order_parts v vs order).0 (ap (λ k. bytes_eq k key) at.key_is ∙ key_itself key) (omega (arith, at.number_is)) in
          absurd cc

  none_at : (vs : List Version) → ((i : ℕ) (d : Version) → i < length vs → place_cmp key n (get_or vs i d) ≡ Equal → ⊥) → version_at vs key n ≡ None
  none_at [] never = refl
  none_at (v ∷ vs) never = by (is_here key n v) refl (none_at vs (λ i d lt. never (suc i) d (omega arith)))
    where
      by : (b : Bool) → is_here key n v ≡ b → version_at vs key n ≡ None → cond b (Some v.value) (version_at vs key n) ≡ None
      by false e rest = rest
      by true e rest = absurd (never 0 v (omega arith) ((Equal-is _).0 (equal_here v ∙ e)))

  pub none_found : (vs : List Version) (at : ℕ) → AreInOrder vs → IsBinarySearchResult (place_cmp key n) vs (Err at) → version_at vs key n ≡ None
  none_found vs at order parted = none_at vs (λ i d lt equal.
      elim (cases_lt i at) [
        | inl below ↦ let less : place_cmp key n (get_or vs i d) ≡ Less = (parted (rises vs order)).0 i d (omega arith) below in absurd cc
        | inr from ↦ let greater : place_cmp key n (get_or vs i d) ≡ Greater = (parted (rises vs order)).1 i d from lt in absurd cc
      ])
