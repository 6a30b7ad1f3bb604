use Rattle.wp_calls_tests.proofs.Ready.{locked}
use Rattle.wp_calls_tests.proofs.writer.lock.Goals as goal

pub returns : goal.returns
returns g c = locked c.args.store.now c.args.seat.now c.lock.new.seat c.requires.direct c.args.txn.now c.key.result c.lock.result c.lock.new.txn c.lock.ensures
