use Rattle.std.proofs.Common.{sym, subst}
use Rattle.wp_shared.specs.Calls.{Continues}
use Rattle.wp_read.specs.Registers.{unregistering}
use Rattle.wp_open_txns.specs.Txn.{OpenState, HasLocked}
use Rattle.wp_open_txns.proofs.Pinned.{locked_unpinned}
use Rattle.wp_open_txns.proofs.names.abandon.Goals as goal

pub free-requires-clause-has : goal.free-requires-clause-has
free-requires-clause-has g c =
    let z = c.args.store.now in let old = c.args.seat.now in let u = c.unpin.new.seat in
    let gone = subst (λ (x : OpenState). Continues z old u (unregistering x.pin old.knows.participant)) c.txn.view_is c.unpin.ensures.goes_on in
    subst (λ (x : OpenState). HasLocked u x.name x.batch x.locked) (sym c.txn.view_is) (locked_unpinned z old u c.args.txn c.requires.open gone)
