use Rattle.std.proofs.Common.{◌≡◌, drop}
use Rattle.wp_prepared.specs.DelayedSet.{first_passed}
use Rattle.wp_prepared.proofs.delayed.first_passed.Given as goal

-- none of those that were looked at is passed
abbrev pub invariant-loop-x : goal.invariant-loop-x
invariant-loop-x l = first_passed l.m l.entries ≡ first_passed l.m (drop l.x-index l.entries)
