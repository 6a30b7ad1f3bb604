use Rattle.std.specs.Prelude.{[], ◌∷◌}
use Rattle.wp_judge.specs.Words.{commit_pair}
use Rattle.wp_core.specs.Steps.{delay_pending}
use Rattle.wp_shared.specs.Seats.{place_at}
use Rattle.wp_commits.proofs.steps.delay_pending.Given as goal

abbrev pub ghosts-make_about : goal.ghosts-make_about
ghosts-make_about g a = record { place = place_at a.self.now a.seat.now.by; steps = λ w. delay_pending (commit_pair a.about.now.0 a.about.now.1) ∷ [] }
