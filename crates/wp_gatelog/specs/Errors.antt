-- When an opening is refused.
use Rattle.std.specs.Prelude.{◌≡◌, ℕ, ◌≤◌, Result, IfErr, OnOk, ⊤}
use Rattle.wp_outside.specs.Faults.{Rose}
use Rattle.wp_gatelog.specs.declared.error.LogError.{LogError}
use Rattle.wp_gatelog.specs.declared.error.LogError.TheVariants.{Memory, DiskFault, BadHead, Cut}

-- a disk fault comes only where the disk's count rose
abbrev pub FaultRose : ℕ → ℕ → LogError → Type 0
FaultRose before now Memory = ⊤
FaultRose before now DiskFault = Rose before now
FaultRose before now BadHead = ⊤
FaultRose before now (Cut index id) = ⊤

-- the disk's count of faults never falls, a disk fault comes only where it rose, and it did not where nothing was refused
pub record HasLogCause {T : Type 0} (before now : ℕ) (result : Result T LogError) : Type 0 where
  pub later : before ≤ now
  pub failed : IfErr result (FaultRose before now)
  pub ok : OnOk result (now ≡ before)

-- the outside refused: memory, or the disk, whose count rose
abbrev pub IsOutside : ℕ → ℕ → LogError → Type 0
IsOutside before now Memory = ⊤
IsOutside before now DiskFault = Rose before now
IsOutside before now BadHead = ⊥
IsOutside before now (Cut index id) = ⊥
