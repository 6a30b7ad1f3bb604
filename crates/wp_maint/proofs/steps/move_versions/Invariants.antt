use Rattle.wp_parts.specs.Stock.{store_state}
use Rattle.wp_shared.specs.Seats.{place_at}
use Rattle.wp_maint.proofs.Made.{moving}
use Rattle.wp_maint.proofs.steps.move_versions.Given as goal

abbrev pub ghosts-make_about : goal.ghosts-make_about
ghosts-make_about g a = record { place = place_at a.self.now a.seat.now.by; steps = moving (store_state a.about.now) }
