use Rattle.std.proofs.Common.{◌≡◌, ◌≤◌, ◌-◌, ◌^◌}
use Rattle.wp_shared.specs.Calls.{Continues}
use Rattle.wp_read.specs.Values.{NoneCommitted}
use Rattle.wp_read.proofs.values.row_behind.Given as goal

abbrev pub invariant-rounds : goal.invariant-rounds
invariant-rounds g l = record {
  continues : Continues l.store l.fn.seat l.seat l.fn.seat.knows.participant;
  same : l.seat.knows.participant ≡ l.fn.seat.knows.participant;
  none : NoneCommitted l.fn.seat.knows.participant.seen l.snapshot.number l.earlier;
  some : 1 ≤ l.most;
}

abbrev pub decreases-rounds : goal.decreases-rounds
decreases-rounds g l = 2 ^ 64 - l.most
