use Rattle.std.specs.Prelude.{[], ◌∷◌}
use Rattle.wp_core.specs.Steps.{lock_direct, note}
use Rattle.wp_core.specs.Views.{direct_free}
use Rattle.wp_shared.specs.Seats.{place_at}
use Rattle.wp_txn.proofs.steps.lock_direct.Given as goal

abbrev pub ghosts-make_about : goal.ghosts-make_about
ghosts-make_about g a = record { place = place_at a.self.now a.seat.now.by; steps = λ w. lock_direct a.about.now ∷ note (direct_free a.about.now) ∷ [] }
