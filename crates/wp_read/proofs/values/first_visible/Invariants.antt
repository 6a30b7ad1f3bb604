use Rattle.std.proofs.Common.{◌≡◌, take}
use Rattle.wp_shared.specs.Calls.{Continues}
use Rattle.wp_read.specs.Values.{NoneCommitted}
use Rattle.wp_read.proofs.values.first_visible.Given as goal

abbrev pub invariant-loop-i : goal.invariant-loop-i
invariant-loop-i g l = record {
  continues : Continues l.store l.fn.seat l.seat l.fn.seat.knows.participant;
  same : l.seat.knows.participant ≡ l.fn.seat.knows.participant;
  none : NoneCommitted l.fn.seat.knows.participant.seen l.snapshot.number (take l.i l.found);
}
