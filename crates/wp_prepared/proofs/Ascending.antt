-- Numbers in ascending order, and what a search among them finds.
use Rattle.std.proofs.Common.{◌≡◌, ℕ, ◌+◌, ◌-◌, ◌<◌, cond, false, inl, inr, List, ◌∷◌, length, get_or, Result, Ok, Err, sym, ap, ◌∙◌, arith}
use Rattle.std.specs.Cmp.{unsigned_tied, nat_cmp_total}
use Rattle.std.specs.Ordering.{nat_cmp, eq_by_cmp}
use Rattle.std.specs.Result.{is_ok}
use Rattle.std.specs.List.Sorted.{IsStrictlyIncreasing}
use Rattle.std.specs.List.{insert, remove, IsDistinct}
use Rattle.std.specs.FinSet as set
use Rattle.std.specs.FinSet.{contains-from_list}
use Rattle.std.proofs.lemmas.Bool.{eq-eqb, ne_eqb, cases_lt, cases_order}
use Rattle.std.proofs.lemmas.List.Edits.{length-insert, get_or-insert_below, get_or-insert_at, get_or-insert_above, length-remove, get_or-remove_below, get_or-remove_above}
use Rattle.std.proofs.lemmas.Grind.{get_or_default_zero}
use Rattle.std.proofs.lemmas.List.Folds.{list_any_at, list_any_none}
use Rattle.std.proofs.lemmas.List.Sorted.{list_any-IsPermutation, IsPermutation-insert, IsPermutation-remove}
use Rattle.std.proofs.lemmas.Map.Keys.{sorted_from_strictly_increasing, IsDistinct-from_sorted, IsDistinct-head, IsDistinct-IsPermutation}
use Rattle.wp_prepared.specs.DelayedSet.{IsPlace}
use Rattle.wp_prepared.proofs.Sets.{has, set_of_numbers, same_either_way, from_list_same, from_list_inserted, from_list_removed, has_none, has-tail, has_in_step}

pub distinct_from_rising : (xs : List ℕ) → IsStrictlyIncreasing xs → IsDistinct (eq_by_cmp nat_cmp) xs
distinct_from_rising xs rising = IsDistinct-from_sorted nat_cmp xs (sorted_from_strictly_increasing xs rising)

-- a search answers Ok exactly for a number that is there
pub is_ok-place : (xs : List ℕ) (p : ℕ) (r : Result ℕ ℕ) → IsPlace xs p r → is_ok r ≡ has xs p
is_ok-place xs p (Ok i) place = sym (list_any_at (eq_by_cmp nat_cmp p) xs i 0 place.0 (unsigned_tied p _ ∙ eq-eqb p _ (sym place.1)))
is_ok-place xs p (Err i) place =
    sym (list_any_none (eq_by_cmp nat_cmp p) xs (λ k d h.
    unsigned_tied p _ ∙ ne_eqb p _ (λ e. let other = get_or_default_zero xs k d h in elim (cases_lt k i) [ inl below ↦ omega (arith, place.1 k below) | inr above ↦ omega (arith, place.2 k above h) ])))

-- the numbers with p in its place are in order too
pub rising-insert : (xs : List ℕ) (p i : ℕ) → IsPlace xs p (Err i) → IsStrictlyIncreasing xs → IsStrictlyIncreasing (insert xs i p)
rising-insert xs p i place rising k fits =
    let long = length-insert xs i p place.0 in
    elim (cases_lt (k + 1) i) [
      | inl before ↦
          let here = get_or-insert_below xs i p 0 k (omega arith) place.0 in
          let next = get_or-insert_below xs i p 0 (k + 1) before place.0 in
          omega (arith, rising k (omega arith))
      | inr rest ↦ elim (cases_order k i) [
        | inl same ↦
            let here = get_or-insert_at xs i p 0 place.0 in
            let next = get_or-insert_above xs i p 0 k (omega arith) place.0 in
            omega (arith, place.2 k (omega arith) (omega arith), ap (λ j. get_or (insert xs i p) j 0) same)
        | inr (inl below) ↦
            let here = get_or-insert_below xs i p 0 k below place.0 in
            let at_i = get_or-insert_at xs i p 0 place.0 in
            let end : k + 1 ≡ i = omega arith in
            omega (arith, place.1 k below, ap (λ j. get_or (insert xs i p) j 0) end)
        | inr (inr above) ↦
            let before : (k - 1) + 1 ≡ k = omega arith in
            let here = get_or-insert_above xs i p 0 (k - 1) (omega arith) place.0 in
            let next = get_or-insert_above xs i p 0 k (omega arith) place.0 in
            omega (arith, rising (k - 1) (omega arith), ap (λ j. get_or (insert xs i p) j 0) before, ap (λ j. get_or xs j 0) before)
      ]
    ]

-- without one the others are in order
pub rising-remove : (xs : List ℕ) (i : ℕ) → i < length xs → IsStrictlyIncreasing xs → IsStrictlyIncreasing (remove xs i)
rising-remove xs i lt rising k fits =
    let long = length-remove xs i lt in
    elim (cases_lt (k + 1) i) [
      | inl before ↦
          let here = get_or-remove_below xs i 0 k (omega arith) lt in
          let next = get_or-remove_below xs i 0 (k + 1) before lt in
          omega (arith, rising k (omega arith))
      | inr rest ↦ elim (cases_lt k i) [
        | inl below ↦
            let here = get_or-remove_below xs i 0 k below lt in
            let next = get_or-remove_above xs i 0 (k + 1) (omega arith) lt in
            omega (arith, rising k (omega arith), rising (k + 1) (omega arith))
        | inr above ↦
            let here = get_or-remove_above xs i 0 k above lt in
            let next = get_or-remove_above xs i 0 (k + 1) (omega arith) lt in
            omega (arith, rising (k + 1) (omega arith))
      ]
    ]

-- with p in its place the set has p too
pub set_of-insert : (xs : List ℕ) (p i : ℕ) → set_of_numbers (insert xs i p) ≡ set.insert (set_of_numbers xs) p
set_of-insert xs p i = from_list_same (insert xs i p) _ (λ q. sym (list_any-IsPermutation (eq_by_cmp nat_cmp q) (p ∷ xs) (insert xs i p) (IsPermutation-insert xs i p)) ∙ sym (contains-from_list nat_cmp_total (p ∷ xs) q))

-- where p was and is taken out, the set lacks it
pub set_of-remove : (xs : List ℕ) (p i : ℕ) → IsStrictlyIncreasing xs → IsPlace xs p (Ok i) → set_of_numbers (remove xs i) ≡ set.remove (set_of_numbers xs) p
set_of-remove xs p i rising place =
    let rest = remove xs i in
    let moved = IsPermutation-remove xs i p place.0 (sym place.1 ∙ sym (get_or_default_zero xs i p place.0)) in
    let apart = IsDistinct-IsPermutation (eq_by_cmp nat_cmp) same_either_way xs (p ∷ rest) moved (distinct_from_rising xs rising) in
    let once = has_none p rest (IsDistinct-head (eq_by_cmp nat_cmp) p rest apart) in
    from_list_removed xs rest p (λ q. has-tail p q rest once ∙ ap (cond (eq_by_cmp nat_cmp p q) false) (sym (list_any-IsPermutation (eq_by_cmp nat_cmp q) xs (p ∷ rest) moved)))

-- where p is, the set has it already
pub set_of-present : (xs : List ℕ) (p i : ℕ) → IsPlace xs p (Ok i) → set_of_numbers xs ≡ set.insert (set_of_numbers xs) p
set_of-present xs p i place = from_list_inserted xs xs p (has_in_step xs p (sym (is_ok-place xs p (Ok i) place)))

-- where p has only a place to go, the set lacks it already
pub set_of-absent : (xs : List ℕ) (p i : ℕ) → IsPlace xs p (Err i) → set_of_numbers xs ≡ set.remove (set_of_numbers xs) p
set_of-absent xs p i place = from_list_removed xs xs p (has_in_step xs p (sym (is_ok-place xs p (Err i) place)))
