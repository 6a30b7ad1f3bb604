-- A source in memory.
use Rattle.std.specs.Prelude.{ℕ, List}
use Rattle.wp_memory.specs.Counter.{Calls}

pub record SourceState : Type 0 where
  pub left : List ℕ  -- what reads will give
  pub calls : Calls
