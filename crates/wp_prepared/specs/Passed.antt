-- Delayed commits that the evicted bound has passed.
use Rattle.std.specs.Prelude.{◌≡◌, ℕ, ◌<◌, ◌≤◌, Some}
use Rattle.std.specs.Ordering.{nat_cmp}
use Rattle.std.specs.FinMap.{FinMap, get}

-- each commit is above m
abbrev pub NonePassed : FinMap nat_cmp ℕ → ℕ → Type 0
NonePassed commits m = (p c : ℕ) → get commits p ≡ Some c → m < c

-- it is a commit that is at most m, and no lesser number has one
pub record IsFirstPassed (commits : FinMap nat_cmp ℕ) (m : ℕ) (found : ℕ × ℕ) : Type 0 where
  pub there : get commits found.0 ≡ Some found.1
  pub passed : found.1 ≤ m
  pub first : (p c : ℕ) → get commits p ≡ Some c → c ≤ m → found.0 ≤ p
