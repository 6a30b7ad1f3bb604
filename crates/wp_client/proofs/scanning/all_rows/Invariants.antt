use Rattle.std.proofs.Common.{◌≡◌, ◌++◌, length}
use Rattle.wp_model.specs.Rows.{rows}
use Rattle.wp_shared.specs.Calls.{Continues}
use Rattle.wp_scan.specs.Scan.{left_of}
use Rattle.wp_client.proofs.scanning.all_rows.Given as goal

abbrev pub invariant-loop-scan : goal.invariant-loop-scan
invariant-loop-scan g l = record {
  continues : Continues l.store l.fn.seat l.seat l.fn.seat.knows.participant;
  same : l.seat.knows.participant ≡ l.fn.seat.knows.participant;
  given : l.pairs ++ left_of l.fn.seat.knows.participant.seen l.snapshot.number l.scan ≡ rows l.fn.seat.knows.participant.seen l.from l.to l.snapshot.number;
}

abbrev pub decreases-loop-scan : goal.decreases-loop-scan
decreases-loop-scan g l = length (left_of l.fn.seat.knows.participant.seen l.snapshot.number l.scan)
