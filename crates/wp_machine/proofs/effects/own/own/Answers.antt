use Rattle.std.proofs.Common.{ap, sym, ◌∙◌}
use Rattle.wp_machine.specs.Machine.{own_step}
use Rattle.wp_machine.proofs.effects.own.own.Goals as goal

pub returns-in-SetBatch : goal.returns-in-SetBatch
returns-in-SetBatch c s e = c.set_batch.ensures s (ap (own_step c.args.actor.now.participant) (sym c.in-SetBatch.is) ∙ e)
