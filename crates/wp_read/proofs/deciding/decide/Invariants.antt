use Rattle.wp_core.specs.Reading.{snapshot_of}
use Rattle.wp_shared.specs.Notes.{noting_only}
use Rattle.wp_read.specs.Reads.{KeepsNotes, Reads, IsOf}
use Rattle.wp_read.proofs.Decides.{loads_left}
use Rattle.wp_read.proofs.deciding.decide.Given as goal

abbrev pub invariant-loads : goal.invariant-loads
invariant-loads g l = record {
  reads : Reads l.store (noting_only l.seat.knows.notes l.fn.seat) l.seat l.seen;
  notes : KeepsNotes l.fn.seat.knows.notes l.seat.knows.notes;
  is : IsOf l.fn.start.version (snapshot_of l.fn.start) l.seen;
}

abbrev pub decreases-loads : goal.decreases-loads
decreases-loads g l = loads_left l.seen
