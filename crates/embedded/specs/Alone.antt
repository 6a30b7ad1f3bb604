-- The only seat of a store, between two calls.
use Rattle.std.specs.Prelude.{◌≡◌, []}
use Rattle.basilcorbel.specs.Seats.{SharedState, SeatState, IsFree}

-- it is the first one, made no other and took none in
pub record IsAlone {D : Type 0} (z : SharedState D) (s : SeatState) : Type 0 where
  pub free : IsFree z.table s
  pub first : s.by ≡ 0
  pub made : s.knows.made ≡ 0
  pub joined : s.knows.joined ≡ []
