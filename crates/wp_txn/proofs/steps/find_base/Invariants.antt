use Rattle.std.specs.Prelude.{[], ◌∷◌}
use Rattle.wp_core.specs.Steps.{find_base}
use Rattle.wp_shared.specs.Seats.{place_at}
use Rattle.wp_txn.proofs.steps.find_base.Given as goal

abbrev pub ghosts-make : goal.ghosts-make
ghosts-make g a = record { place = place_at a.self.now a.seat.now.by; steps = λ w. find_base ∷ [] }
