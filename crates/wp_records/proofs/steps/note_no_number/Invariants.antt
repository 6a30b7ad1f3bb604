use Rattle.std.specs.Prelude.{[], ◌∷◌}
use Rattle.wp_core.specs.Steps.{note}
use Rattle.wp_core.specs.Views.{number_not_in_heap}
use Rattle.wp_shared.specs.Seats.{place_at}
use Rattle.wp_records.proofs.steps.note_no_number.Given as goal

abbrev pub ghosts-make : goal.ghosts-make
ghosts-make g a = record { place = place_at a.self.now a.seat.now.by; steps = λ w. note number_not_in_heap ∷ [] }
