use Rattle.std.specs.Prelude.{[], ◌∷◌}
use Rattle.wp_core.specs.Steps.{begin_reading}
use Rattle.wp_shared.specs.Seats.{place_at}
use Rattle.wp_read.proofs.steps.begin_reading.Given as goal

abbrev pub ghosts-begin : goal.ghosts-begin
ghosts-begin g a = record { place = place_at a.store.now a.seat.now.by; steps = λ w. begin_reading a.bits a.p a.snapshot.now ∷ [] }
