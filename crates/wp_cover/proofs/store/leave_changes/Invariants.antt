use Rattle.std.proofs.Common.{◌≤◌, length, drop}
use Rattle.wp_cover.specs.Store.{LeavesChanges}
use Rattle.wp_cover.proofs.store.leave_changes.Given as goal

abbrev pub invariant-loop-i : goal.invariant-loop-i
invariant-loop-i l = record { within : l.i ≤ length l.changes; left : LeavesChanges (drop l.i l.changes) l.initial.store l.store }

abbrev pub decreases-loop-i : goal.decreases-loop-i
decreases-loop-i l = l.i
