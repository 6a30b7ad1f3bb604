-- A seat that remembers how it found the tables, and what became of them.
use Rattle.std.specs.Prelude.{◌≡◌, [], ◌∷◌, Bool}
use Rattle.wp_core.specs.States.{Installed, installed}
use Rattle.wp_core.specs.Views.{Event, Fact}
use Rattle.wp_shared.specs.Calls.{with_events}
use Rattle.wp_shared.specs.Notes.{with_participant, GoesOn}
use Rattle.wp_shared.specs.Seats.{SharedState, SeatState}
use Rattle.wp_maint.specs.Calls.{Finds, found_by}

-- it held these tables in a world of the store, and is as it was but that it remembers them
pub record Remembers {D : Type 0} (z : SharedState D) (old : SeatState) (e : Installed) (new : SeatState) : Type 0 where
  pub found : Finds z old new e
  pub is : new ≡ with_participant (with_events (found_by z old new e found ∷ []) old.knows.participant) old

-- it held these tables, and holds those now; it remembers the first, and this event
pub record Changes {D : Type 0} (z : SharedState D) (old : SeatState) (e left : Installed) (event : Event) (test : Fact → Bool) (new : SeatState) : Type 0 where
  pub found : Finds z old new e
  pub goes : GoesOn test (installed left ∷ []) old.turns (with_participant (with_events (found_by z old new e found ∷ event ∷ []) old.knows.participant) old) new
