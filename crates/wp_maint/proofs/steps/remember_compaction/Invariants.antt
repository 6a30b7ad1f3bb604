use Rattle.wp_shared.specs.Seats.{place_at}
use Rattle.wp_maint.proofs.Made.{compacting}
use Rattle.wp_maint.proofs.steps.remember_compaction.Given as goal

abbrev pub ghosts-make_about : goal.ghosts-make_about
ghosts-make_about g a = record { place = place_at a.self.now a.seat.now.by; steps = compacting a.about.now.state.last }
