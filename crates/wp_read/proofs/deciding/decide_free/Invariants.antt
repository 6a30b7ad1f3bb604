use Rattle.wp_read.specs.Reads.{Reads, IsOf}
use Rattle.wp_read.proofs.Decides.{loads_left}
use Rattle.wp_read.proofs.deciding.decide_free.Given as goal

abbrev pub invariant-loads : goal.invariant-loads
invariant-loads g l = record { reads : Reads l.store l.fn.seat l.seat l.seen; is : IsOf l.fn.p l.fn.snapshot l.seen }

abbrev pub decreases-loads : goal.decreases-loads
decreases-loads g l = loads_left l.seen
