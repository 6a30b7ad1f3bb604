use Rattle.std.specs.Prelude.{[], ◌∷◌}
use Rattle.wp_core.specs.Steps.{load_published, hear}
use Rattle.wp_shared.specs.Seats.{place_at}
use Rattle.wp_open_txns.proofs.steps.hear_label.Given as goal

abbrev pub ghosts-make_about : goal.ghosts-make_about
ghosts-make_about g a = record { place = place_at a.self.now a.seat.now.by; steps = λ w. load_published ∷ hear a.about.now.0.now a.about.now.1 ∷ [] }
