use Rattle.std.specs.Prelude.{suc, [], ◌∷◌, length, unwrap_or}
use Rattle.wp_core.specs.Steps.{register}
use Rattle.wp_shared.specs.Seats.{place_at}
use Rattle.wp_read.proofs.steps.register.Given as goal

abbrev pub ghosts-register_with : goal.ghosts-register_with
ghosts-register_with g a = record { place = place_at a.store.now a.seat.now.by; steps = λ w. register (unwrap_or a.smallest (suc (length w.writes.history))) ∷ [] }
