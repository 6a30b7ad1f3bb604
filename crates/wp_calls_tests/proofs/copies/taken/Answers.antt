use Rattle.wp_calls_tests.proofs.Ready.{has_snapshot}
use Rattle.wp_calls_tests.proofs.copies.taken.Goals as goal

pub returns : goal.returns
returns g c = has_snapshot c.args.store.now c.args.first.now c.snapshot.new.seat c.requires c.in-Ok.taken c.in-Ok.ensures.registered
