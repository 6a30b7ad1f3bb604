use Rattle.std.proofs.Common.{take}
use Rattle.wp_prepared.specs.DelayedSet.{AreFrom}
use Rattle.wp_prepared.proofs.delayed.least_in.Given as goal

-- none of those that were looked at has a commit below it
abbrev pub invariant-loop-x : goal.invariant-loop-x
invariant-loop-x l = AreFrom l.least (take l.x-index l.entries)
