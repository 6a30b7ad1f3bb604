-- How far the evicted bound rises before a pair goes.
use Rattle.std.specs.Prelude.{ℕ, ◌+◌, ◌-◌, ◌/◌, min, max, nat_lt, if◌then◌else◌}

-- it rises by a hundredth of the cache at once, and by one at least
abbrev pub step_of : ℕ → ℕ
step_of cells = max (cells / 100) 1

-- Where the decision is below the published number the bound rises past it, by a step more, but stays below that number.
abbrev pub bound_past : ℕ → ℕ → ℕ → ℕ
bound_past cells published decision = if nat_lt decision published then min (decision + step_of cells) (published - 1) else decision
