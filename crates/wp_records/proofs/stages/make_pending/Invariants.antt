use Rattle.std.specs.Prelude.{[], ◌∷◌}
use Rattle.wp_core.specs.Steps.{make_pending, note}
use Rattle.wp_core.specs.Views.{versions_nowhere, number_not_in_heap, pair_not_delayed}
use Rattle.wp_shared.specs.Seats.{place_at}
use Rattle.wp_records.proofs.stages.make_pending.Given as goal

abbrev pub ghosts-make_about : goal.ghosts-make_about
ghosts-make_about g a = record { place = place_at a.self.now a.seat.now.by; steps = λ w. make_pending a.about.now.state.pending ∷ note versions_nowhere ∷ note number_not_in_heap ∷ note pair_not_delayed ∷ [] }
