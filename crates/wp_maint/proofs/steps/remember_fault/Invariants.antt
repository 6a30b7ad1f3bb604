use Rattle.std.specs.Prelude.{[], ◌∷◌}
use Rattle.wp_core.specs.Steps as step
use Rattle.wp_shared.specs.Seats.{place_at}
use Rattle.wp_maint.proofs.steps.remember_fault.Given as goal

abbrev pub ghosts-make_about : goal.ghosts-make_about
ghosts-make_about g a = record { place = place_at a.self.now a.seat.now.by; steps = λ w. step.halt a.about.now.state.failed ∷ [] }
