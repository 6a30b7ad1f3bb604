use Rattle.std.specs.Prelude.{[], ◌∷◌}
use Rattle.wp_core.specs.Steps.{load}
use Rattle.wp_shared.specs.Seats.{place_at}
use Rattle.wp_read.proofs.steps.load.Given as goal

abbrev pub ghosts-load_with : goal.ghosts-load_with
ghosts-load_with g a = record { place = place_at a.store.now a.seat.now.by; steps = λ w. load a.which ∷ [] }
