-- The first number in an order is the least.
use Rattle.std.proofs.Common.{ℕ, ◌||◌, List, [], ◌∷◌, refl, sym, ap, ◌∙◌, arith}
use Rattle.std.specs.Cmp.{nat_cmp_total, unsigned_tied}
use Rattle.std.specs.Ordering.{nat_cmp, eq_by_cmp}
use Rattle.std.specs.List.{slice_get}
use Rattle.std.specs.List.Sorted.{IsStrictlyIncreasing}
use Rattle.std.specs.FinSet.{contains-from_list}
use Rattle.std.proofs.lemmas.Bool.{eq-eqb, eqb-true}
use Rattle.std.proofs.lemmas.Grind.{get_or_default_zero}
use Rattle.std.proofs.lemmas.List.Folds.{Any-from_list_any}
use Rattle.std.proofs.lemmas.Map.Keys.{sorted_from_strictly_increasing, non_decreasing_from_sorted}
use Rattle.wp_prepared.specs.Least.{IsLeastOrNone}
use Rattle.wp_prepared.proofs.Sets.{has, set_of_numbers}

-- the first of ascending numbers
pub least_of_rising : (xs : List ℕ) → IsStrictlyIncreasing xs → IsLeastOrNone (set_of_numbers xs) (slice_get xs 0)
least_of_rising [] rising = contains-from_list nat_cmp_total []
least_of_rising (x ∷ xs) rising = record {
  member = contains-from_list nat_cmp_total (x ∷ xs) x ∙ ap (λ b. b || has xs x) (unsigned_tied x x ∙ eq-eqb x x refl);
  least = λ q there.
      let found = Any-from_list_any (eq_by_cmp nat_cmp q) (x ∷ xs) (sym (contains-from_list nat_cmp_total (x ∷ xs) q) ∙ there) in
      let is = eqb-true q found.1 (sym (unsigned_tied q found.1) ∙ found.4) in
      let not_below = non_decreasing_from_sorted (x ∷ xs) (sorted_from_strictly_increasing (x ∷ xs) rising) 0 found.0 0 (omega arith) found.2 in
      omega (arith, found.3, get_or_default_zero (x ∷ xs) found.0 found.1 found.2);
}
