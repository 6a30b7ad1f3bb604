use Rattle.wp_shared.specs.Seats.{place_at}
use Rattle.wp_read.specs.Registers.{pinning}
use Rattle.wp_read.proofs.steps.register_again.Given as goal

abbrev pub ghosts-register_again_with : goal.ghosts-register_again_with
ghosts-register_again_with g a = record { place = place_at a.store.now a.seat.now.by; steps = λ w. pinning a.floor a.numbers.now }
