-- A seat at which nothing was done that lasts.
use Rattle.std.specs.Prelude.{◌≡◌, []}
use Rattle.wp_shared.specs.Seats.{SharedState, SeatState}
use Rattle.wp_client.specs.Alone.{IsOnly}
use Rattle.wp_client.specs.Holdings.{no_holdings, Holds}

-- It is the only seat, is free and has nothing. It published nothing, and remembers nothing.
pub record IsUnused {D : Type 0} (z : SharedState D) (s : SeatState) : Type 0 where
  pub only : IsOnly s
  pub holds : Holds z s no_holdings
  pub own : s.knows.participant.own ≡ []
  pub past : s.knows.participant.past ≡ []
