-- What a seat finds of a snapshot of its own in the history that it looks at under the write turn.
use Rattle.std.proofs.Common.{◌≡◌, ◌≤◌, [], length, refl, subst, arith}
use Rattle.wp_model.specs.Legal.{IsLegal}
use Rattle.wp_core.specs.Lists.{IsIn}
use Rattle.wp_core.specs.Reading.{Registration}
use Rattle.wp_core.specs.States.{WriteState, writes}
use Rattle.wp_core.specs.Turns.{write_turn}
use Rattle.wp_core.proofs.KeepsSeen.{shorter}
use Rattle.wp_rule.proofs.Knows.{at_sound}
use Rattle.wp_parts.specs.Log.{LogState}
use Rattle.wp_shared.specs.Calls.{Continues}
use Rattle.wp_shared.specs.Notes.{no_fact, GoesOn}
use Rattle.wp_shared.specs.Seats.{SharedState, SeatState, IsFree, place_at}
use Rattle.wp_shared.specs.Turns.{HoldsTurn, TookLog, Given}
use Rattle.wp_read.proofs.Readings.{registered_low}
use Rattle.wp_open_txns.proofs.KeyTaken as looks

module _ {D : Type 0} (z : SharedState D) (old t : SeatState) (log : LogState) (took : TookLog z old t log) where
  stayed : GoesOn no_fact t.knows.held t.turns t t
  stayed = record { same = refl; noted = λ fact none there. there }

  pub holds : IsFree z.table old → HoldsTurn z t (writes log.state) [] []
  holds free = looks.log_held z old t t t log took stayed free

  module _ (new : SeatState) (gave : Given z write_turn t new [] []) where
    pub continues : Continues z old new old.knows.participant
    continues = looks.looked z old t t new log took stayed gave

    pub seen_is : new.knows.participant.seen ≡ log.state.history
    seen_is = looks.looked_at z old t t new log took stayed gave

  pub legal : IsLegal log.state.history
  legal = subst (λ (w : WriteState). IsLegal w.history) took.is (at_sound (place_at z t.by) t.knows took.world took.stands).history.legal

  module _ (r : Registration) (there : IsIn r old.knows.participant.registered) where
    pub seen_before : r.number ≤ length old.knows.participant.seen
    seen_before = registered_low (place_at z old.by) old.knows took.found r took.before there

    pub in_history : r.number ≤ length log.state.history
    in_history = let long = shorter log.state.history old.knows.participant.seen took.grown in let low = seen_before in omega (arith, long, low)
