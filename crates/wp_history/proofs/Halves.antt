-- A carried prepare that is found by halves.
use Rattle.std.proofs.Common.{◌≡◌, ◌==◌, ℕ, zero, suc, ◌<◌, ◌≤◌, List, [], ◌∷◌, map, length, get_or, Some, None, Result, Ok, Err, refl, sym, ap, ◌∙◌, subst, arith}
use Rattle.std.specs.Ordering.{nat_cmp, ordering_index}
use Rattle.std.specs.List.{find}
use Rattle.std.specs.List.Sorted.{IsSearchInRange, IsBinarySearchResult}
use Rattle.std.proofs.lemmas.Bool.{eq-eqb, ne_eqb}
use Rattle.std.proofs.lemmas.Bool.Decides.{nat_tests}
use Rattle.std.proofs.lemmas.Cmp.{ranked}
use Rattle.std.proofs.lemmas.List.Sorted.{IsNonDecreasingBy-from_default}
use Rattle.wp_model.specs.declared.carried.Carried.{Carried}
use Rattle.wp_history_laws.specs.Growth.{AreAscending}
use Rattle.wp_history_laws.proofs.Ascending.{IsNowhere, IsPlace, above_at, rises, between}

abbrev blank : Carried
blank = record { number = 0; name = []; batch = [] }

abbrev number_of : Carried → ℕ
number_of x = x.number

count_numbers : (xs : List Carried) → length (map number_of xs) ≡ length xs
count_numbers [] = refl
count_numbers (x ∷ xs) = ap suc (count_numbers xs)

number_at : (xs : List Carried) (i : ℕ) → get_or (map number_of xs) i 0 ≡ (get_or xs i blank).number
number_at [] i = refl
number_at (x ∷ xs) zero = refl
number_at (x ∷ xs) (suc i) = number_at xs i

-- where the search says it is, or belongs
place_in : (xs : List Carried) (p : ℕ) (r : Result ℕ ℕ) → AreAscending (map number_of xs) → IsSearchInRange r (length xs) → IsBinarySearchResult (λ x. nat_cmp x.number p) xs r → IsPlace (map number_of xs) p r
place_in xs p (Ok i) ascend within found =
    let size = count_numbers xs in
    let same : (get_or xs i blank).number ≡ p = ranked _ p _ (sym (found blank)) in
    (omega (arith, within, size), number_at xs i ∙ same)
place_in xs p (Err i) ascend within parted =
    let size = count_numbers xs in
    let rise = IsNonDecreasingBy-from_default (λ x. ordering_index (nat_cmp x.number p)) xs blank (λ k j le fits.
    let order = rises (map number_of xs) ascend k j le (omega (arith, fits, size)) in
    let numbers : (get_or xs k blank).number ≤ (get_or xs j blank).number = omega (arith, order, number_at xs k, number_at xs j) in
    grind (arith, nat_tests)) in
    let parts = parted rise in (
      omega (arith, within, size),
      λ k low.
          let below : (get_or xs k blank).number < p = ranked _ p _ (sym (parts.0 k blank (omega (arith, low, within)) low)) in
          omega (arith, below, number_at xs k),
      λ k from fits.
          let above : p < (get_or xs k blank).number = ranked _ p _ (sym (parts.1 k blank from (omega (arith, fits, size)))) in
          omega (arith, above, number_at xs k),
    )

-- the one there has the number, and none before it
there_is : (xs : List Carried) (i p : ℕ) (x : Carried) → AreAscending (map number_of xs) → i < length xs → get_or (map number_of xs) i 0 ≡ p → x ≡ get_or xs i x → Some x ≡ find (λ y. y.number == p) xs
there_is [] i p x ascend lt at here = absurd (omega arith)
there_is (y ∷ ys) zero p x ascend lt at here = rw (eq-eqb y.number p at) (ap (λ (z : Carried). Some z) here)
there_is (y ∷ ys) (suc i) p x ascend lt at here =
    let above = above_at y.number (map number_of ys) i ascend.0 (omega (arith, lt, count_numbers ys)) in
    rw (ne_eqb y.number p (λ same. absurd (omega (arith, same, above, at)))) (there_is ys i p x ascend.1 (omega arith) at here)

none_is : (xs : List Carried) (p : ℕ) → IsNowhere (map number_of xs) p → None ≡ find (λ y. y.number == p) xs
none_is [] p nowhere = refl
none_is (y ∷ ys) p nowhere = rw (ne_eqb y.number p (nowhere 0 (omega arith))) (none_is ys p (λ k lt. nowhere (suc k) (omega (arith, lt))))

module _ (xs : List Carried) (p : ℕ) (r : Result ℕ ℕ) (ascend : AreAscending (map number_of xs)) (within : IsSearchInRange r (length xs)) (found : IsBinarySearchResult (λ x. nat_cmp x.number p) xs r) where
  pub found_there : (i : ℕ) (x : Carried) → r ≡ Ok i → x ≡ get_or xs i x → Some x ≡ find (λ y. y.number == p) xs
  found_there i x is here =
      let place : IsPlace (map number_of xs) p (Ok i) = subst (IsPlace (map number_of xs) p) is (place_in xs p r ascend within found) in
      there_is xs i p x ascend (let lt = place.0 in omega (arith, lt, count_numbers xs)) place.1 here

  pub found_nowhere : (i : ℕ) → r ≡ Err i → None ≡ find (λ y. y.number == p) xs
  found_nowhere i is =
      let place : IsPlace (map number_of xs) p (Err i) = subst (IsPlace (map number_of xs) p) is (place_in xs p r ascend within found) in
      none_is xs p (between (map number_of xs) p i place.1 place.2)
