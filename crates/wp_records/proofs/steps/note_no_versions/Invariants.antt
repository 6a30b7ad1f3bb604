use Rattle.std.specs.Prelude.{[], ◌∷◌}
use Rattle.wp_core.specs.Steps.{note}
use Rattle.wp_core.specs.Views.{versions_in_memory}
use Rattle.wp_shared.specs.Seats.{place_at}
use Rattle.wp_records.proofs.steps.note_no_versions.Given as goal

abbrev pub ghosts-make : goal.ghosts-make
ghosts-make g a = record { place = place_at a.self.now a.seat.now.by; steps = λ w. note versions_in_memory ∷ [] }
