-- What the end of a client's session leaves of its seat.
use Rattle.std.specs.Prelude.{◌≡◌}
use Rattle.wp_shared.specs.Seats.{SharedState, SeatState}
use Rattle.wp_client.specs.Answers.{Stays}
use Rattle.wp_client.specs.Holdings.{HoldingsState, Holds}

-- The client had this, and has this now. Its seat published nothing, and remembers no more.
pub record LetsGo {D : Type 0} (z : SharedState D) (old new : SeatState) (was now : HoldingsState) : Type 0 where
  pub stays : Stays old new
  pub own : new.knows.participant.own ≡ old.knows.participant.own
  pub past : new.knows.participant.past ≡ old.knows.participant.past
  pub holds : Holds z old was → Holds z new now
