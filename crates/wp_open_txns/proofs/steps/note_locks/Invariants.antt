use Rattle.std.specs.Prelude.{[], ◌∷◌}
use Rattle.wp_core.specs.Steps.{note}
use Rattle.wp_core.specs.Views.{locks_stay}
use Rattle.wp_shared.specs.Seats.{place_at}
use Rattle.wp_open_txns.specs.Txn.{keys_in}
use Rattle.wp_open_txns.proofs.steps.note_locks.Given as goal

abbrev pub ghosts-make_about : goal.ghosts-make_about
ghosts-make_about g a = record { place = place_at a.self.now a.seat.now.by; steps = λ w. note (locks_stay a.about.now.name a.about.now.number (keys_in a.about.now.batch a.about.now.locked)) ∷ [] }
