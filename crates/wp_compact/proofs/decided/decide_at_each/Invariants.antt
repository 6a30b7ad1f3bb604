use Rattle.std.proofs.Common.{◌≡◌, [], ◌∷◌, take}
use Rattle.wp_shared.specs.Calls.{Continues}
use Rattle.wp_read.specs.Registers.{numbers_of}
use Rattle.wp_compact.specs.Decided.{Decides}
use Rattle.wp_compact.proofs.decided.decide_at_each.Given as goal

abbrev pub invariant-loop-i : goal.invariant-loop-i
invariant-loop-i g l = record {
  continues : Continues l.store l.fn.seat l.seat l.fn.seat.knows.participant;
  same : l.seat.knows.participant ≡ l.fn.seat.knows.participant;
  decided : Decides l.fn.seat.knows.participant.seen (l.number ∷ []) (numbers_of (take l.i l.live)) l.fn.committed.items l.committed.items;
}
