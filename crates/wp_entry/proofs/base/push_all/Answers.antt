use Rattle.std.proofs.Common.{arith}
use Rattle.std.proofs.lemmas.Grind.{common_steps}
use Rattle.wp_entry.proofs.base.push_all.Goals as goal

pub loop-one-preserved : goal.loop-one-preserved
loop-one-preserved c = grind (arith, common_steps)

pub returns-clause-pushed : goal.returns-clause-pushed
returns-clause-pushed c = grind (arith, common_steps)

pub returns-clause-in_range : goal.returns-clause-in_range
returns-clause-in_range c = grind (arith, common_steps)
