use Rattle.std.proofs.Common.{◌≡◌, ◌++◌, length, map}
use Rattle.basilcorbel.specs.Rows.{pair_of, rows}
use Rattle.basilcorbel.specs.Scan.{left_of}
use Rattle.embedded.specs.Alone.{IsAlone}
use Rattle.embedded.proofs.listing.rows_at.Given as goal

abbrev pub invariant-loop-scan : goal.invariant-loop-scan
invariant-loop-scan g l = record {
  alone : IsAlone l.store l.seat;
  same : l.seat.knows.participant ≡ l.fn.seat.knows.participant;
  given : map pair_of l.found.items ++ left_of l.fn.seat.knows.participant.seen l.at.number l.scan ≡ rows l.fn.seat.knows.participant.seen l.from l.to l.at.number;
}

abbrev pub decreases-loop-scan : goal.decreases-loop-scan
decreases-loop-scan g l = length (left_of l.fn.seat.knows.participant.seen l.at.number l.scan)
