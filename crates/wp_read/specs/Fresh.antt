-- A read as of now: at a number that was published while the call ran.
use Rattle.std.specs.Prelude.{◌≡◌, ℕ, ◌≤◌, List, Option, length}
use Rattle.wp_model.specs.declared.entry.Entry.{Entry}
use Rattle.wp_model.specs.History.{value_at}
use Rattle.wp_core.specs.Reading.{Registration}
use Rattle.wp_core.specs.Sound.Actors.{StartsWith}
use Rattle.wp_shared.specs.Calls.{Continues}
use Rattle.wp_shared.specs.Seats.{SharedState, SeatState}
use Rattle.wp_read.specs.Registers.{IsTaken}

-- The number was published in a world of the store in which the seat took a snapshot with it, and had done no more than before.
-- What was published then it has seen now.
pub record WasPublished {D : Type 0} (z : SharedState D) (old new : SeatState) (n : ℕ) : Type 0 where
  pub snapshot : Registration
  pub history : List Entry
  pub taken : IsTaken z old history snapshot
  pub number : snapshot.number ≡ n
  pub seen : StartsWith new.knows.participant.seen history

-- The value of the key at a number that was published while the call ran. The seat is as it was but for what it has seen.
pub record ReadsFresh {D : Type 0} (z : SharedState D) (old new : SeatState) (key : List ℕ) (value : Option (List ℕ)) (at : ℕ) : Type 0 where
  pub goes_on : Continues z old new old.knows.participant
  pub fresh : length old.knows.participant.seen ≤ at
  pub within : at ≤ length new.knows.participant.seen
  pub published : WasPublished z old new at
  pub value_is : value ≡ value_at new.knows.participant.seen key at
