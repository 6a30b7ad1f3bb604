use Rattle.std.proofs.Common.{[]}
use Rattle.wp_shared.proofs.Onward.{holds_alone}
use Rattle.wp_txn.proofs.DirectWrites.{direct_held}
use Rattle.wp_open_txns.proofs.GoesOn.{lent_as}
use Rattle.wp_txn.proofs.direct.hold.Goals as goal

pub lock-outcome-requires-clause-seat : goal.lock-outcome-requires-clause-seat
lock-outcome-requires-clause-seat g c = holds_alone c.requires.free (lent_as c.deref_mut.ensures.value c.take_turn-tables.ensures.taken)

pub give_turn-requires-clause-holds : goal.give_turn-requires-clause-holds
give_turn-requires-clause-holds g c = ([], [], c.lock-outcome.ensures.holds)

pub returns : goal.returns
returns g c = let done = c.lock-outcome.ensures in
    direct_held c.args.store.now c.args.seat.now _ c.args.key.now _ _ (lent_as c.deref_mut.ensures.value c.take_turn-tables.ensures.taken) c.requires.none _ c.give_turn.new.seat c.lock-outcome.result done.answered (c.give_turn.ensures [] [] done.holds)
