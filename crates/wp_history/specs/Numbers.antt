-- Numbers in memory: how their contracts see them.
use Rattle.std.specs.Prelude.{ℕ, List}

-- the numbers, and how many more take no memory
pub record RoomyNumbers : Type 0 where
  pub items : List ℕ
  pub room : ℕ
