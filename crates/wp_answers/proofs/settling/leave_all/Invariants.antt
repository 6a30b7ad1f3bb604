use Rattle.std.proofs.Common.{length}
use Rattle.wp_answers.specs.Settling.{GivesUpTo}
use Rattle.wp_answers.proofs.settling.leave_all.Given as goal

abbrev pub invariant-loop-txns : goal.invariant-loop-txns
invariant-loop-txns g l = GivesUpTo l.store l.fn.seat l.seat l.txns.items

abbrev pub decreases-loop-txns : goal.decreases-loop-txns
decreases-loop-txns g l = length l.txns.items
