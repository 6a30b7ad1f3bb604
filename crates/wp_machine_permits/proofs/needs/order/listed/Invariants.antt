use Rattle.std.proofs.Common.{◌≡◌, ◌++◌, length}
use Rattle.wp_machine_permits.proofs.needs.order.listed.Given as goal

abbrev pub invariant-loop-version : goal.invariant-loop-version
invariant-loop-version l = l.list.items ++ l.merge ≡ l.fn.merge

abbrev pub decreases-loop-version : goal.decreases-loop-version
decreases-loop-version l = length l.merge
