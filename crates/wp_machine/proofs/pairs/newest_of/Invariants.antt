use Rattle.std.proofs.Common.{◌≡◌, drop}
use Rattle.wp_machine.specs.Pairs.{newest_of}
use Rattle.wp_machine.proofs.pairs.newest_of.Given as goal

abbrev pub invariant-loop-pair : goal.invariant-loop-pair
invariant-loop-pair g l = newest_of l.pairs l.n ≡ newest_of (drop l.pair-index l.pairs) l.n
