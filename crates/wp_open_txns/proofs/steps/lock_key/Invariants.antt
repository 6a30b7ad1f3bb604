use Rattle.wp_shared.specs.Seats.{place_at}
use Rattle.wp_open_txns.proofs.Made.{locking_steps}
use Rattle.wp_open_txns.proofs.steps.lock_key.Given as goal

abbrev pub ghosts-make_about : goal.ghosts-make_about
ghosts-make_about g a = record { place = place_at a.self.now a.seat.now.by; steps = locking_steps a.seat.now.knows a.about.now.0.now a.about.now.1.now }
