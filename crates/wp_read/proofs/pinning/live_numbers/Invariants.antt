use Rattle.std.proofs.Common.{◌++◌}
use Rattle.wp_read.specs.Registers.{AreLive}
use Rattle.wp_read.proofs.pinning.live_numbers.Given as goal

abbrev pub invariant-loop-number : goal.invariant-loop-number
invariant-loop-number l = AreLive l.snaps (l.numbers.items ++ l.number-iterator)
