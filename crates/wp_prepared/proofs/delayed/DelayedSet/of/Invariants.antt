use Rattle.std.proofs.Common.{◌≡◌, map, take}
use Rattle.wp_prepared.proofs.Numbered.{bare}
use Rattle.wp_prepared.proofs.delayed.DelayedSet.of.Given as goal

-- the numbers so far, each without a commit
abbrev pub invariant-loop-number : goal.invariant-loop-number
invariant-loop-number l = l.entries.items ≡ map bare (take l.number-index l.numbers)
