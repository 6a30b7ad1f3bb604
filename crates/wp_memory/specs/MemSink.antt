-- A sink in memory.
use Rattle.std.specs.Prelude.{ℕ, Bool, ◌&&◌, ◌||◌, nat_lt, nat_le, List, length}
use Rattle.wp_memory.specs.Counter.{Calls, is_listed}

pub record SinkState : Type 0 where
  pub contents : List ℕ  -- what writes have put there
  pub room : ℕ  -- the greatest length
  pub calls : Calls

-- the next call is listed, or nothing of a piece that has bytes fits
abbrev pub refuses_write : SinkState → List ℕ → Bool
refuses_write s piece = is_listed s.calls || (nat_lt 0 (length piece) && nat_le s.room (length s.contents))
