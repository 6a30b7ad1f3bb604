use Rattle.std.proofs.Common.{◌≡◌, [], ◌∷◌, take}
use Rattle.wp_shared.specs.Calls.{Continues}
use Rattle.wp_read.specs.Registers.{numbers_of}
use Rattle.wp_compact.specs.Decided.{Decides, version_numbers}
use Rattle.wp_compact.proofs.decided.decide_each.Given as goal

abbrev pub invariant-loop-i : goal.invariant-loop-i
invariant-loop-i g l = record {
  continues : Continues l.store l.fn.seat l.seat l.fn.seat.knows.participant;
  same : l.seat.knows.participant ≡ l.fn.seat.knows.participant;
  decided : Decides l.fn.seat.knows.participant.seen (version_numbers (take l.i l.versions)) (numbers_of (l.pinned.floor ∷ l.pinned.live.items)) [] l.committed.items;
}
