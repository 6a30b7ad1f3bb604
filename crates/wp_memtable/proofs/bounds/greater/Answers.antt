use Rattle.std.proofs.Common.{nat_lt}
use Rattle.wp_memtable.proofs.Between.{raised_more, and_true}
use Rattle.wp_memtable.proofs.bounds.greater.Goals as goal

pub returns-in-Some : goal.returns-in-Some
returns-in-Some c m = rw (c.max.ensures, c.in-Some.is) (raised_more c.in-Some.above c.args.n m)

pub returns-in-None : goal.returns-in-None
returns-in-None c m = rw c.in-None.is (and_true (nat_lt c.args.n m))
