use Rattle.std.specs.Prelude.{[], ◌∷◌}
use Rattle.wp_core.specs.Steps.{find_log_closed}
use Rattle.wp_shared.specs.Seats.{place_at}
use Rattle.wp_stages.proofs.steps.find_closed.Given as goal

abbrev pub ghosts-make_about : goal.ghosts-make_about
ghosts-make_about g a = record { place = place_at a.self.now a.seat.now.by; steps = λ w. find_log_closed ∷ [] }
