use Rattle.std.proofs.Common.{◌+◌}
use Rattle.wp_history.specs.Outline.{RestoreUpTo}
use Rattle.wp_history.proofs.outline.Outline.first_wrong.Given as goal

abbrev pub invariant-loop-i : goal.invariant-loop-i
invariant-loop-i l = RestoreUpTo l.self (l.self.base + l.i)
