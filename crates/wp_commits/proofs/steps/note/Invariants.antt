use Rattle.std.specs.Prelude.{[], ◌∷◌}
use Rattle.wp_core.specs.Steps.{note}
use Rattle.wp_shared.specs.Seats.{place_at}
use Rattle.wp_commits.specs.PairNotes.{fact_of}
use Rattle.wp_commits.proofs.steps.note.Given as goal

abbrev pub ghosts-make_about : goal.ghosts-make_about
ghosts-make_about g a = record { place = place_at a.self.now a.seat.now.by; steps = λ w. note (fact_of a.about.now) ∷ [] }
