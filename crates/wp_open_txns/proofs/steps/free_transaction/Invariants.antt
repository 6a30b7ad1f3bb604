use Rattle.std.specs.Prelude.{[], ◌∷◌}
use Rattle.wp_core.specs.Steps.{free_transaction}
use Rattle.wp_shared.specs.Seats.{place_at}
use Rattle.wp_open_txns.proofs.steps.free_transaction.Given as goal

abbrev pub ghosts-make_about : goal.ghosts-make_about
ghosts-make_about g a = record { place = place_at a.self.now a.seat.now.by; steps = λ w. free_transaction a.about.now ∷ [] }
