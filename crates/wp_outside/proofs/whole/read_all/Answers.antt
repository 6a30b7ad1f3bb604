use Rattle.std.proofs.Common.{arith}
use Rattle.wp_outside.proofs.ReadLemmas.{takes_to_end, takes_most}
use Rattle.wp_outside.proofs.whole.read_all.Goals as goal

pub returns-in-Ok-End-clause-taken : goal.returns-in-Ok-End-clause-taken
returns-in-Ok-End-clause-taken g c =
    takes_to_end _ _ _ _ _ c.loop-piece.invariant.consumed c.loop-piece.invariant.few (rw c.in-Ok-End.field-0-is at c.in-Ok-End.ensures.gives)

pub returns-clause-taken : goal.returns-clause-taken
returns-clause-taken g c = takes_most _ _ _ _ c.loop-piece.invariant.consumed c.loop-piece.invariant.few (omega arith)
