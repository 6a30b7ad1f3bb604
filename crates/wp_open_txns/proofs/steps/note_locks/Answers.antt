use Rattle.wp_core.specs.Views.{locks_stay}
use Rattle.wp_shared.proofs.Noting.{noted}
use Rattle.wp_open_txns.specs.Txn.{keys_in}
use Rattle.wp_open_txns.proofs.Made.{may_note_locks}
use Rattle.wp_open_txns.proofs.steps.note_locks.Goals as goal

pub make_about-requires-clause-may : goal.make_about-requires-clause-may
make_about-requires-clause-may g c = may_note_locks _ c.args.seat.now c.args.txn.now c.requires.seat.1 c.requires.prepared

pub returns : goal.returns
returns g c = let t = c.args.txn.now in noted _ _ (locks_stay t.name t.number (keys_in t.batch t.locked)) _ _ c.make_about.ensures.same c.make_about.ensures.moved
