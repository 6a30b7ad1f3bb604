use Rattle.std.specs.Prelude.{[], ◌∷◌}
use Rattle.wp_core.specs.Steps.{renew}
use Rattle.wp_shared.specs.Seats.{place_at}
use Rattle.wp_stages.proofs.steps.remember_renewal.Given as goal

abbrev pub ghosts-make_about : goal.ghosts-make_about
ghosts-make_about g a = record { place = place_at a.self.now a.seat.now.by; steps = λ w. renew a.about.now.state.last ∷ [] }
