use Rattle.std.specs.Prelude.{[], ◌∷◌, false}
use Rattle.wp_core.specs.Steps.{install}
use Rattle.wp_shared.specs.Seats.{place_at}
use Rattle.wp_maint.proofs.steps.remember_flush.Given as goal

abbrev pub ghosts-make_about : goal.ghosts-make_about
ghosts-make_about g a = record { place = place_at a.self.now a.seat.now.by; steps = λ w. install a.about.now.state.last false ∷ [] }
