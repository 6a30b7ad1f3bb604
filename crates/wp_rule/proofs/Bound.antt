-- How far the evicted bound rises.
use Rattle.std.proofs.Common.{◌≡◌, ℕ, ◌+◌, ◌-◌, ◌/◌, ◌<◌, ◌≤◌, min, max, nat_lt, Bool, true, false, cond, refl, arith}
use Rattle.std.proofs.lemmas.Bool.Decides.{nat_tests}
use Rattle.wp_rule.specs.Bound.{bound_past}

pub past_reaches : (cells published decision : ℕ) → decision ≤ bound_past cells published decision
past_reaches cells published decision = by_test (nat_lt decision published) refl
  where
    by_test : (b : Bool) → nat_lt decision published ≡ b → decision ≤ cond b (min (decision + max (cells / 100) 1) (published - 1)) decision
    by_test true e = let lt : decision < published = grind (arith, nat_tests) in omega (arith, lt)
    by_test false e = omega arith

pub past_published : (cells published decision : ℕ) → decision ≤ published → bound_past cells published decision ≤ published
past_published cells published decision low = by_test (nat_lt decision published)
  where
    by_test : (b : Bool) → cond b (min (decision + max (cells / 100) 1) (published - 1)) decision ≤ published
    by_test true = omega arith
    by_test false = low
