use Rattle.std.proofs.Common.{arith}
use Rattle.std.specs.Ordering.{nat_cmp}
use Rattle.std.specs.FinSet.{len-empty}
use Rattle.wp_prepared.proofs.prepared.Prepared.delaying.Goals as goal

pub invariant_of-result : goal.invariant_of-result
invariant_of-result c = rw c.new.ensures (omega (arith, len-empty nat_cmp))
