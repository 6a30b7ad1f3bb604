-- The least number of a set, and a number above all of it.
use Rattle.std.specs.Prelude.{◌≡◌, ℕ, ◌<◌, ◌≤◌, Option, MatchOption, false, IsTrue}
use Rattle.std.specs.Ordering.{nat_cmp}
use Rattle.std.specs.FinSet.{FinSet, contains}

-- p is the least number of the set
pub record IsLeast (s : FinSet nat_cmp) (p : ℕ) : Type 0 where
  pub member : IsTrue (contains s p)
  pub least : (q : ℕ) → IsTrue (contains s q) → p ≤ q

-- the least number of the set, or none where the set is empty
abbrev pub IsLeastOrNone : FinSet nat_cmp → Option ℕ → Type 0
IsLeastOrNone s least = MatchOption least ((q : ℕ) → contains s q ≡ false) (IsLeast s)

-- p is above each number of the set
abbrev pub AreBelow : FinSet nat_cmp → ℕ → Type 0
AreBelow s p = (q : ℕ) → IsTrue (contains s q) → q < p
