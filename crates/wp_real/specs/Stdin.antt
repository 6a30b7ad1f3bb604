-- Standard input, by the reader that the runtime gives for it.
use Rattle.std.specs.Prelude.{ℕ, List, Option}

pub record StdinState : Type 0 where
  pub left : Option (List ℕ)  -- what its reader will give, where that is known
  pub faults : ℕ  -- the calls that failed, up to the greatest u64
