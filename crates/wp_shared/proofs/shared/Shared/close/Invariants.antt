use Rattle.std.proofs.Common.{◌≡◌, ◌++◌, List, length}
use Rattle.wp_shared.specs.Seats.{SeatState}
use Rattle.wp_shared.specs.Ending.{AllFree, all_joined}
use Rattle.wp_shared.proofs.shared.Shared.close.Given as goal

abbrev pub invariant-loop-other : goal.invariant-loop-other
invariant-loop-other g l =
    (gone : List SeatState) × (l.initial.seats.items ≡ l.seats.items ++ gone) × (l.first ≡ record l.initial.first { knows = all_joined l.initial.first.knows gone }) × AllFree l.self.table l.seats.items

abbrev pub decreases-loop-other : goal.decreases-loop-other
decreases-loop-other g l = length l.seats.items
