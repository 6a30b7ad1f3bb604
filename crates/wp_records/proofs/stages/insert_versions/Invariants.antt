use Rattle.std.specs.Prelude.{[], ◌∷◌}
use Rattle.wp_core.specs.Steps.{add_versions, note}
use Rattle.wp_core.specs.Views.{versions_in_memory}
use Rattle.wp_parts.specs.Stock.{store_state}
use Rattle.wp_shared.specs.Seats.{place_at}
use Rattle.wp_records.proofs.stages.insert_versions.Given as goal

abbrev pub ghosts-make_about : goal.ghosts-make_about
ghosts-make_about g a = record { place = place_at a.self.now a.seat.now.by; steps = λ w. add_versions (store_state a.about.now).memory ∷ note versions_in_memory ∷ [] }
