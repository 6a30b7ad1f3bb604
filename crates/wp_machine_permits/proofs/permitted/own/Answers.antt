use Rattle.std.proofs.Common.{ap, ◌∙◌}
use Rattle.wp_machine.specs.Machine.{own_step}
use Rattle.wp_machine_permits.proofs.permitted.own.Goals as goal

pub returns-in-SetBatch : goal.returns-in-SetBatch
returns-in-SetBatch c has = let o = c.may_set_batch.ensures has c.args.world.now c.args.by in record { step = o.step; is = ap (own_step c.args.actor.now.participant) c.in-SetBatch.is ∙ o.is; needs = o.needs }
