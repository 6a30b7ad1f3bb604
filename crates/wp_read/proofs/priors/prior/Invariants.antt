use Rattle.std.proofs.Common.{◌≡◌, take}
use Rattle.wp_model.specs.Legal.{prior}
use Rattle.wp_shared.specs.Calls.{Continues}
use Rattle.wp_read.proofs.priors.prior.Given as goal

abbrev pub invariant-loop-change : goal.invariant-loop-change
invariant-loop-change g l = record {
  continues : Continues l.store l.fn.seat l.seat l.fn.seat.knows.participant;
  same : l.seat.knows.participant ≡ l.fn.seat.knows.participant;
  found : l.found ≡ prior (take l.snapshot.number l.fn.seat.knows.participant.seen) (take l.change-index l.change-items);
}
