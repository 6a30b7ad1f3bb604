use Rattle.std.specs.Prelude.{[], ◌∷◌}
use Rattle.wp_core.specs.Steps.{free_key}
use Rattle.wp_open_txns.specs.Actors.{transaction_in}
use Rattle.wp_shared.specs.Seats.{place_at}
use Rattle.wp_open_txns.proofs.steps.free_key.Given as goal

abbrev pub ghosts-make_about : goal.ghosts-make_about
ghosts-make_about g a = record { place = place_at a.self.now a.seat.now.by; steps = λ w. free_key a.about.now.0.now (transaction_in a.seat.now.knows.participant a.about.now.0.now) a.about.now.1.now ∷ [] }
