-- The write turn, as a call holds it.
use Rattle.std.specs.Prelude.{◌≡◌, Bool, List, [], length, Some}
use Rattle.wp_model.specs.declared.entry.Entry.{Entry}
use Rattle.wp_core.specs.Lists.{IsIn}
use Rattle.wp_core.specs.States.{writes}
use Rattle.wp_core.specs.Views.{Fact}
use Rattle.wp_core.specs.World.{Actor, Participant, World}
use Rattle.wp_rule.specs.Words.{IsAt}
use Rattle.wp_parts.specs.Log.{LogState}
use Rattle.wp_parts.specs.Parts.{log_first}
use Rattle.wp_shared.specs.Calls.{IsLoose}
use Rattle.wp_shared.specs.Notes.{KnowsWords}
use Rattle.wp_shared.specs.Seats.{SharedState, SeatState, place_at}
use Rattle.wp_shared.specs.Turns.{HoldsTurn}

-- The seat holds the write turn alone, with this log, in which nothing is pending. It has seen the whole history.
pub record HoldsWrite {D : Type 0} (z : SharedState D) (s : SeatState) (log : LogState) : Type 0 where
  pub turn : HoldsTurn z s (writes log.state) [] []
  pub pending : log.state.pending ≡ []
  pub seen : s.knows.participant.seen ≡ log.state.history
  pub of_store : log_first z.first ≡ Some log.first
  pub words : KnowsWords s.knows (length log.state.history)

-- In a reached world the seat held the write turn, and had seen the whole history, which is this one. It was this participant
-- then, but for what it had seen, had noted what it had noted without a turn, and had made and taken in no other since; and the log was
-- closed, or it was not.
pub record FoundLog {D : Type 0} (z : SharedState D) (old : SeatState) (before : Participant) (history : List Entry) (closed : Bool) : Type 0 where
  pub world : World
  pub actor : Actor
  pub there : IsAt (place_at z old.by) actor world
  pub held : IsIn (writes world.writes) actor.held
  pub participant : actor.participant ≡ record before { seen = history }
  pub notes : (fact : Fact) → IsLoose fact → IsIn fact old.knows.notes → IsIn fact actor.notes
  pub made : actor.made ≡ old.knows.made
  pub joined : actor.joined ≡ old.knows.joined
  pub history_is : world.writes.history ≡ history
  pub closed_is : world.writes.closed ≡ closed
