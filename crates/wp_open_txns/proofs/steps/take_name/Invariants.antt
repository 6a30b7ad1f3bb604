use Rattle.wp_rule.specs.Moves.{taking_name}
use Rattle.wp_shared.specs.Seats.{place_at}
use Rattle.wp_open_txns.proofs.steps.take_name.Given as goal

abbrev pub ghosts-make_about : goal.ghosts-make_about
ghosts-make_about g a = record { place = place_at a.self.now a.seat.now.by; steps = taking_name a.about.now }
