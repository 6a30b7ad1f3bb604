use Rattle.std.specs.Prelude.{[], ◌∷◌}
use Rattle.wp_judge.specs.declared.observed.Load.TheVariants.{InPrepared}
use Rattle.wp_core.specs.Steps.{load}
use Rattle.wp_shared.specs.Seats.{place_at}
use Rattle.wp_read.proofs.steps.look_in_prepared.Given as goal

abbrev pub ghosts-make : goal.ghosts-make
ghosts-make g a = record { place = place_at a.self.now a.seat.now.by; steps = λ w. load InPrepared ∷ [] }
