-- A form that shows no content.
use Rattle.std.specs.Prelude.{ℕ}

-- all that contracts see of a file, or of standard output
pub record Opaque : Type 0 where
  pub faults : ℕ  -- the calls that failed, up to the greatest u64
