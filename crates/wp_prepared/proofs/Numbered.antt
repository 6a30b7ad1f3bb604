-- A list of delayed numbers, and its numbers.
use Rattle.std.proofs.Common.{◌≡◌, ℕ, zero, suc, ◌<◌, ◌≤◌, List, [], ◌∷◌, map, length, get_or, set, None, Result, Ok, Err, refl, sym, subst, ap, ◌∙◌, arith}
use Rattle.std.specs.Ordering.{nat_cmp, ordering_index}
use Rattle.std.specs.List.{insert, remove}
use Rattle.std.specs.List.Sorted.{IsStrictlyIncreasing, IsSearchInRange, IsBinarySearchResult}
use Rattle.std.proofs.lemmas.Bool.Decides.{nat_tests}
use Rattle.std.proofs.lemmas.Cmp.{ranked}
use Rattle.std.proofs.lemmas.List.Sorted.{IsNonDecreasingBy-from_default}
use Rattle.std.proofs.lemmas.Map.Keys.{sorted_from_strictly_increasing, non_decreasing_from_sorted}
use Rattle.wp_prepared.specs.declared.delayed.Delayed.{Delayed}
use Rattle.wp_prepared.specs.DelayedSet.{numbers_in, IsPlace}

abbrev pub blank : Delayed
blank = record { number = 0; commit = None }

pub count_numbers : (xs : List Delayed) → length (numbers_in xs) ≡ length xs
count_numbers [] = refl
count_numbers (x ∷ xs) = ap suc (count_numbers xs)

pub number_at : (xs : List Delayed) (i : ℕ) → get_or (numbers_in xs) i 0 ≡ (get_or xs i blank).number
number_at [] i = refl
number_at (x ∷ xs) zero = refl
number_at (x ∷ xs) (suc i) = number_at xs i

pub numbers-insert : (xs : List Delayed) (i : ℕ) (x : Delayed) → numbers_in (insert xs i x) ≡ insert (numbers_in xs) i x.number
numbers-insert [] zero x = refl
numbers-insert [] (suc i) x = refl
numbers-insert (y ∷ ys) zero x = refl
numbers-insert (y ∷ ys) (suc i) x = ap (λ (ns : List ℕ). y.number ∷ ns) (numbers-insert ys i x)

pub numbers-remove : (xs : List Delayed) (i : ℕ) → numbers_in (remove xs i) ≡ remove (numbers_in xs) i
numbers-remove [] zero = refl
numbers-remove [] (suc i) = refl
numbers-remove (y ∷ ys) zero = refl
numbers-remove (y ∷ ys) (suc i) = ap (λ (ns : List ℕ). y.number ∷ ns) (numbers-remove ys i)

-- where the same number takes its place, the numbers are the same
pub numbers-set : (xs : List Delayed) (i : ℕ) (x : Delayed) → get_or (numbers_in xs) i 0 ≡ x.number → numbers_in (set xs i x) ≡ numbers_in xs
numbers-set [] i x same = refl
numbers-set (y ∷ ys) zero x same = ap (λ (n : ℕ). n ∷ numbers_in ys) (sym same)
numbers-set (y ∷ ys) (suc i) x same = ap (λ (ns : List ℕ). y.number ∷ ns) (numbers-set ys i x same)

-- ---- a search by number

pub found_place : (xs : List Delayed) (p : ℕ) (r : Result ℕ ℕ) → IsStrictlyIncreasing (numbers_in xs) → IsSearchInRange r (length xs) → IsBinarySearchResult (λ x. nat_cmp x.number p) xs r → IsPlace (numbers_in xs) p r
found_place xs p (Ok i) rising within found =
    let size = count_numbers xs in
    let same : (get_or xs i blank).number ≡ p = ranked _ p _ (sym (found blank)) in
    (omega (arith, within, size), number_at xs i ∙ same)
found_place xs p (Err i) rising within parted =
    let size = count_numbers xs in
    let rise = IsNonDecreasingBy-from_default (λ x. ordering_index (nat_cmp x.number p)) xs blank (λ k j le fits.
    let order = non_decreasing_from_sorted (numbers_in xs) (sorted_from_strictly_increasing (numbers_in xs) rising) k j 0 le (omega (arith, fits, size)) in
    let numbers : (get_or xs k blank).number ≤ (get_or xs j blank).number = omega (arith, order, number_at xs k, number_at xs j) in
    grind (arith, nat_tests)) in
    let parts = parted rise in (
      omega (arith, within, size),
      λ k low.
          let below : (get_or xs k blank).number < p = ranked _ p _ (sym (parts.0 k blank (omega (arith, low, within)) low)) in
          omega (arith, below, number_at xs k),
      λ k from fits.
          let above : p < (get_or xs k blank).number = ranked _ p _ (sym (parts.1 k blank from (omega (arith, fits, size)))) in
          omega (arith, above, number_at xs k),
    )

-- a place in an equal list, for an equal answer
pub same_place : (xs ys : List Delayed) (p : ℕ) (r s : Result ℕ ℕ) → ys ≡ xs → r ≡ s → IsPlace (numbers_in ys) p r → IsPlace (numbers_in xs) p s
same_place xs ys p r s same is place = subst (IsPlace (numbers_in xs) p) is (subst (λ (zs : List Delayed). IsPlace (numbers_in zs) p r) same place)

-- ---- numbers without a commit

abbrev pub bare : ℕ → Delayed
bare n = record { number = n; commit = None }

pub numbers-bare : (ns : List ℕ) → numbers_in (map bare ns) ≡ ns
numbers-bare [] = refl
numbers-bare (n ∷ ns) = ap (λ (ms : List ℕ). n ∷ ms) (numbers-bare ns)
