use Rattle.std.proofs.Common.{◌≡◌}
use Rattle.wp_shared.specs.Calls.{Continues}
use Rattle.wp_scan.specs.Scan.{left_of}
use Rattle.wp_scan.proofs.scan.Scan.next.Given as goal

abbrev pub invariant-loop : goal.invariant-loop
invariant-loop g l = record {
  continues : Continues l.store l.fn.seat l.seat l.fn.seat.knows.participant;
  same : l.seat.knows.participant ≡ l.fn.seat.knows.participant;
  left : left_of l.fn.seat.knows.participant.seen l.snapshot.number l.self ≡ left_of l.fn.seat.knows.participant.seen l.snapshot.number l.fn.self;
}
