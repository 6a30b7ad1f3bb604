use Rattle.std.specs.Prelude.{[], ◌∷◌}
use Rattle.wp_core.specs.Steps.{release}
use Rattle.wp_shared.specs.Seats.{place_at}
use Rattle.wp_read.specs.Registers.{all_but_last, last_of}
use Rattle.wp_read.proofs.steps.unregister_last.Given as goal

abbrev pub ghosts-unregister_at : goal.ghosts-unregister_at
ghosts-unregister_at g a =
    record { place = place_at a.store.now a.seat.now.by; steps = λ w. release (all_but_last a.seat.now.knows.participant.registered) (last_of (record { number = 0; smallest = 0 }) a.seat.now.knows.participant.registered) [] ∷ [] }
