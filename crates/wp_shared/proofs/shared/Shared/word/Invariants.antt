use Rattle.std.specs.Prelude.{[]}
use Rattle.wp_shared.specs.Seats.{place_at}
use Rattle.wp_shared.proofs.shared.Shared.word.Given as goal

abbrev pub ghosts-load : goal.ghosts-load
ghosts-load g a = record { place = place_at a.self.now a.seat.now.by; steps = λ w. [] }
