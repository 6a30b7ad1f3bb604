use Rattle.std.proofs.Common.{◌+◌, ◌≤◌, length}
use Rattle.wp_model.specs.Changed.{IsUnchanged}
use Rattle.wp_history.proofs.outline.Outline.changed_after.Given as goal

abbrev pub invariant-loop-i : goal.invariant-loop-i
invariant-loop-i l = record { within : l.self.base + l.i ≤ length l.self.entries; none : IsUnchanged l.self.entries l.key (l.self.base + l.i) }

abbrev pub decreases-loop-i : goal.decreases-loop-i
decreases-loop-i l = l.i
