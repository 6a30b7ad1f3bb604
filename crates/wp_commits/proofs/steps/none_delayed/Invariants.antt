use Rattle.wp_shared.specs.Seats.{place_at}
use Rattle.wp_commits.specs.Making.{noting_none_waits}
use Rattle.wp_commits.proofs.steps.none_delayed.Given as goal

abbrev pub ghosts-load : goal.ghosts-load
ghosts-load g a = record { place = place_at a.self.now a.seat.now.by; steps = noting_none_waits }
