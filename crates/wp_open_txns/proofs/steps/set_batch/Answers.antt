use Rattle.wp_shared.proofs.OneStep.{becomes}
use Rattle.wp_open_txns.proofs.Made.{may_set, batch_set}
use Rattle.wp_open_txns.proofs.steps.set_batch.Goals as goal

pub make_about-requires-clause-may : goal.make_about-requires-clause-may
make_about-requires-clause-may g c = may_set _ _ c.args.name.now c.args.batch.now c.requires.has c.requires.batch

pub returns : goal.returns
returns g c = becomes c.args.seat.now c.make_about.new.seat _ c.make_about.ensures.same (batch_set _ _ _ _ c.args.name.now c.args.batch.now c.make_about.ensures.moved)
