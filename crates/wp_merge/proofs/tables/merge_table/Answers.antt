use Rattle.std.proofs.Common.{arith}
use Rattle.std.proofs.lemmas.Grind.{common_steps}
use Rattle.wp_merge.proofs.tables.merge_table.Goals as goal

pub loop-merged-preserved : goal.loop-merged-preserved
loop-merged-preserved c = grind (arith, common_steps)
