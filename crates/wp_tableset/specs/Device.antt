-- The device of the table files, whose bytes stay once they are on it for good.
use Rattle.std.specs.Prelude.{◌≡◌, ℕ, List, ◌++◌, length}
use Rattle.wp_outside.specs.Disk.{Moment, IfKnown, Goes}
use Rattle.wp_gatelog.specs.Durability.{Preserves}
use Rattle.wp_gatelog.specs.Moments.{Leaves}

abbrev pub BeginsWith : List ℕ → List ℕ → Type 0
BeginsWith front bytes = (rest : List ℕ) × (bytes ≡ front ++ rest)

-- where the device is known, its bytes end at that place
abbrev pub IsEnd : List Moment → ℕ → Type 0
IsEnd moments place = IfKnown moments (λ m. place ≡ length m.reads)

-- bytes that each crash at one moment would leave in front, each crash at a later moment leaves there too
abbrev pub KeepsFronts : List Moment → List Moment → Type 0
KeepsFronts old new = (front : List ℕ) → Preserves (Leaves (BeginsWith front)) old new

-- at each moment a crash leaves the bytes before and others behind them, and no front that was there for good is lost
pub record GrowsFrom (before : List ℕ) (old new : List Moment) : Type 0 where
  pub kept : Goes (Leaves (BeginsWith before)) old new
  pub fronts : KeepsFronts old new
