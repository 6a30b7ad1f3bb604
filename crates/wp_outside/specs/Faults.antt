-- How a refusal of the outside is accounted for.
use Rattle.std.specs.Prelude.{◌≡◌, ℕ, ◌+◌, ◌-◌, ◌^◌, ◌≤◌, min, OnOk, OnErr, Result}
use Rattle.wp_outside.specs.declared.failed.Failed.{Failed}

-- one more; a count stays at the greatest u64
abbrev pub risen : ℕ → ℕ
risen n = min (n + 1) (2 ^ 64 - 1)

-- the count rose: a count that is at its greatest value has risen
abbrev pub Rose : ℕ → ℕ → Type 0
Rose before now = risen before ≤ now

-- The count of faults never falls, and the call failed just where it rose: a call that is Ok counts none, so none that failed within it
-- was tried again.
pub record HasCause {T : Type 0} (before now : ℕ) (result : Result T Failed) : Type 0 where
  pub later : before ≤ now
  pub failed : OnErr result (Rose before now)
  pub ok : OnOk result (now ≡ before)
