use Rattle.std.proofs.Common.{◌≡◌, drop}
use Rattle.wp_machine.specs.Pairs.{newest_under}
use Rattle.wp_machine.proofs.pairs.newest_under.Given as goal

abbrev pub invariant-loop-pair : goal.invariant-loop-pair
invariant-loop-pair g l = newest_under l.pairs l.name ≡ newest_under (drop l.pair-index l.pairs) l.name
