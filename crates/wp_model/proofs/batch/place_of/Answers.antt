use Rattle.std.proofs.Common.{arith}
use Rattle.wp_model.proofs.BatchLemmas.{passes, unchanged_before, changed_at}
use Rattle.wp_model.proofs.batch.place_of.Goals as goal

pub returns-in-Less : goal.returns-in-Less
returns-in-Less c = unchanged_before _ _ _ c.index-changes-i.result (omega arith) c.index-changes-i.is (cc) c.loop-i.invariant

pub returns-in-Equal : goal.returns-in-Equal
returns-in-Equal c = changed_at _ _ _ c.index-changes-i.result (omega arith) c.index-changes-i.is (cc) c.loop-i.invariant

pub loop-i-preserved : goal.loop-i-preserved
loop-i-preserved c = passes _ _ _ c.index-changes-i.result (omega arith) c.index-changes-i.is (cc) c.loop-i.invariant
