use Rattle.std.proofs.Common.{◌-◌, ◌<◌, ◌≤◌, ℕ, length}
use Rattle.wp_machine_permits.specs.VersionLists.{HasEntry}
use Rattle.wp_machine_permits.proofs.needs.stored.has_later.Given as goal

abbrev pub invariant-loop-p : goal.invariant-loop-p
invariant-loop-p l = (q : ℕ) → l.flushed < q → q ≤ l.p → HasEntry l.history.entries l.memory q

abbrev pub decreases-loop-p : goal.decreases-loop-p
decreases-loop-p l = length l.history.entries - l.p
