use Rattle.std.proofs.Common.{take}
use Rattle.wp_history.specs.Holders.{Holds}
use Rattle.wp_history.proofs.holders.Holders.of.Given as goal

abbrev pub invariant-loop-x : goal.invariant-loop-x
invariant-loop-x l = Holds (take l.x-index l.prepares) l.holders
