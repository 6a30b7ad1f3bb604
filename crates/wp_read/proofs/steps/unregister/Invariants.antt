use Rattle.std.specs.Prelude.{[], ◌∷◌}
use Rattle.wp_core.specs.Steps.{release}
use Rattle.wp_shared.specs.Seats.{place_at}
use Rattle.wp_read.specs.Registers.{before_last, behind_last}
use Rattle.wp_read.proofs.steps.unregister.Given as goal

abbrev pub ghosts-unregister_with : goal.ghosts-unregister_with
ghosts-unregister_with g a = record {
  place = place_at a.store.now a.seat.now.by;
  steps = λ w. release (before_last a.snapshot.now a.seat.now.knows.participant.registered) a.snapshot.now (behind_last a.snapshot.now a.seat.now.knows.participant.registered) ∷ [];
}
