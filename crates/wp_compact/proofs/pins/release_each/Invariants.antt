use Rattle.std.proofs.Common.{◌≡◌, List, ◌++◌, length}
use Rattle.wp_core.specs.Reading.{Registration}
use Rattle.wp_shared.specs.Calls.{Continues}
use Rattle.wp_compact.proofs.pins.release_each.Given as goal

abbrev pub invariant-loop-snapshot : goal.invariant-loop-snapshot
invariant-loop-snapshot g l =
    (front : List Registration) → l.fn.seat.knows.participant.registered ≡ front ++ l.fn.live.items → Continues l.store l.fn.seat l.seat (record l.fn.seat.knows.participant { registered = front ++ l.live.items })

abbrev pub decreases-loop-snapshot : goal.decreases-loop-snapshot
decreases-loop-snapshot g l = length l.live.items
