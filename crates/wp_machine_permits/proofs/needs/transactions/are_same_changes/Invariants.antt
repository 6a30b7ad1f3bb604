use Rattle.std.proofs.Common.{◌≡◌, take}
use Rattle.wp_machine_permits.proofs.needs.transactions.are_same_changes.Given as goal

abbrev pub invariant-loop-i : goal.invariant-loop-i
invariant-loop-i l = take l.i l.changes ≡ take l.i l.others
