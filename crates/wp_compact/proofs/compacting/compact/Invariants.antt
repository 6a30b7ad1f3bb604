use Rattle.wp_shared.specs.Calls.{Continues}
use Rattle.wp_maint.specs.Calls.{KeepsEach}
use Rattle.wp_compact.proofs.compacting.compact.Given as goal

abbrev pub invariant-loop : goal.invariant-loop
invariant-loop g l = Continues l.store l.fn.seat l.seat l.fn.seat.knows.participant × KeepsEach l.store l.fn.seat l.seat
