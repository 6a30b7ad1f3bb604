use Rattle.wp_shared.specs.Seats.{place_at}
use Rattle.wp_commits.specs.Making.{keeping}
use Rattle.wp_commits.proofs.steps.keep.Given as goal

abbrev pub ghosts-make_about : goal.ghosts-make_about
ghosts-make_about g a = record { place = place_at a.self.now a.seat.now.by; steps = keeping a.about.now.0 a.about.now.1 }
