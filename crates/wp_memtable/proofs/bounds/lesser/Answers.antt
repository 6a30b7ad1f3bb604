use Rattle.std.proofs.Common.{nat_lt}
use Rattle.wp_memtable.proofs.Between.{lowered_more, and_true}
use Rattle.wp_memtable.proofs.bounds.lesser.Goals as goal

pub returns-in-Some : goal.returns-in-Some
returns-in-Some c m = rw (c.min.ensures, c.in-Some.is) (lowered_more c.in-Some.below c.args.n m)

pub returns-in-None : goal.returns-in-None
returns-in-None c m = rw c.in-None.is (and_true (nat_lt m c.args.n))
