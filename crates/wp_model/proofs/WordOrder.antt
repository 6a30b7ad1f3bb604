-- The order of bytes from a place on, where one of the two ends.
use Rattle.std.proofs.Common.{◌≡◌, ℕ, zero, suc, ◌<◌, ◌≤◌, ◌⊎◌, Less, Equal, Greater, List, [], ◌∷◌, length, drop, inl, inr, refl, ap, arith}
use Rattle.std.specs.Ordering.{MatchOrdering, nat_cmp}
use Rattle.std.specs.declared.cmp.Ordering.{Ordering}
use Rattle.std.specs.Cmp.{nat_cmp_is}
use Rattle.std.specs.Cmp.Lexicographic.{slice_cmp}

-- r is the order of two lengths
abbrev Ranks : Ordering → ℕ → ℕ → Type 0
Ranks r m n = MatchOrdering r (m < n) (m ≡ n) (n < m)

one_more : (r : Ordering) (m n : ℕ) → Ranks r m n → Ranks r (suc m) (suc n)
one_more Less m n h = omega (arith, h)
one_more Equal m n h = ap suc h
one_more Greater m n h = omega (arith, h)

ranks_rest : (xs ys : List ℕ) (i : ℕ) → i ≤ length xs → i ≤ length ys → (length xs ≤ i) ⊎ (length ys ≤ i) → Ranks (slice_cmp nat_cmp (drop i xs) (drop i ys)) (length xs) (length ys)
ranks_rest [] [] zero in_xs in_ys ends = refl
ranks_rest [] (b ∷ ys) zero in_xs in_ys ends = omega arith
ranks_rest (a ∷ xs) [] zero in_xs in_ys ends = omega arith
ranks_rest (a ∷ xs) (b ∷ ys) zero in_xs in_ys ends = elim ends [ inl here ↦ absurd (omega (arith, here)) | inr here ↦ absurd (omega (arith, here)) ]
ranks_rest [] ys (suc i) in_xs in_ys ends = absurd (omega (arith, in_xs))
ranks_rest (a ∷ xs) [] (suc i) in_xs in_ys ends = absurd (omega (arith, in_ys))
ranks_rest (a ∷ xs) (b ∷ ys) (suc i) in_xs in_ys ends =
    one_more _ (length xs) (length ys)
    (ranks_rest xs ys i (omega (arith, in_xs)) (omega (arith, in_ys)) (elim ends [ inl here ↦ inl (omega (arith, here)) | inr here ↦ inr (omega (arith, here)) ]))

pub order_end : (xs ys : List ℕ) (i : ℕ) → i ≤ length xs → i ≤ length ys → (length xs ≤ i) ⊎ (length ys ≤ i) → slice_cmp nat_cmp (drop i xs) (drop i ys) ≡ nat_cmp (length xs) (length ys)
order_end xs ys i in_xs in_ys ends = nat_cmp_is (length xs) (length ys) _ (ranks_rest xs ys i in_xs in_ys ends)
