use Rattle.std.proofs.Common.{◌≡◌, take}
use Rattle.wp_machine_permits.proofs.needs.versions.are_equal.Given as goal

abbrev pub invariant-loop-i : goal.invariant-loop-i
invariant-loop-i l = take l.i l.versions ≡ take l.i l.others
