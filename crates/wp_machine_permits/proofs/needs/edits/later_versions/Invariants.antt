use Rattle.std.proofs.Common.{◌≡◌, ◌++◌, ◌-◌, length, drop}
use Rattle.wp_model.specs.Flushed.{versions_after, later_versions}
use Rattle.wp_machine_permits.proofs.needs.edits.later_versions.Given as goal

abbrev pub invariant-loop-i : goal.invariant-loop-i
invariant-loop-i l = l.later.items ++ versions_after l.i (drop l.i l.entries) ≡ later_versions l.entries l.n

abbrev pub decreases-loop-i : goal.decreases-loop-i
decreases-loop-i l = length l.entries - l.i
