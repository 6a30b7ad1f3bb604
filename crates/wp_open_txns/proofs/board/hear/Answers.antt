use Rattle.std.proofs.Common.{[], subst}
use Rattle.wp_model.specs.LockState.{LockState}
use Rattle.wp_core.specs.States.{locks}
use Rattle.wp_shared.specs.Turns.{HoldsTurn}
use Rattle.wp_shared.proofs.Onward.{holds_alone}
use Rattle.wp_open_txns.proofs.GoesOn.{lent_as, heard_back}
use Rattle.wp_open_txns.proofs.board.hear.Goals as goal

pub hear_under-outcome-requires : goal.hear_under-outcome-requires
hear_under-outcome-requires g c = holds_alone c.requires (lent_as c.deref.ensures c.take_turn-tables.ensures.taken)

pub give_turn-requires-clause-holds : goal.give_turn-requires-clause-holds
give_turn-requires-clause-holds g c = ([], [], subst (λ (x : LockState). HoldsTurn c.args.store.now c.hear_under-outcome.new.seat (locks x) [] []) c.deref.ensures c.hear_under-outcome.ensures.holds)

pub returns : goal.returns
returns g c = let done = c.hear_under-outcome.ensures in
    heard_back c.args.store.now c.args.seat.now _ _ (lent_as c.deref.ensures c.take_turn-tables.ensures.taken) c.args.label.now c.hear_under-outcome.result _ c.give_turn.new.seat done.answered done.published (c.give_turn.ensures [] [] (subst (λ (x : LockState). HoldsTurn c.args.store.now c.hear_under-outcome.new.seat (locks x) [] []) c.deref.ensures done.holds))
