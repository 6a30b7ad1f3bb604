use Rattle.wp_prepared.proofs.Moves.{added_fits}
use Rattle.wp_prepared.proofs.prepared.Prepared.add.Goals as goal

pub invariant_of-self-2 : goal.invariant_of-self-2
invariant_of-self-2 c = added_fits c.self.inside.heap c.add.new.self c.args.p c.queued.result c.reserve.new.self.room c.add.result c.queued.ensures.all c.in_ok-reserve.ensures.ok c.add.ensures.ok c.add.ensures.err
