use Rattle.std.specs.Prelude.{[], ◌∷◌}
use Rattle.wp_core.specs.Steps.{add_prepared, note}
use Rattle.wp_core.specs.Views.{number_in_heap}
use Rattle.wp_shared.specs.Seats.{place_at}
use Rattle.wp_records.proofs.stages.insert_number.Given as goal

abbrev pub ghosts-make : goal.ghosts-make
ghosts-make g a = record { place = place_at a.self.now a.seat.now.by; steps = λ w. add_prepared ∷ note number_in_heap ∷ [] }
