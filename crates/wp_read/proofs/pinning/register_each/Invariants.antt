use Rattle.std.proofs.Common.{◌≡◌, take}
use Rattle.wp_read.specs.Registers.{with_each}
use Rattle.wp_read.proofs.pinning.register_each.Given as goal

abbrev pub invariant-loop-i : goal.invariant-loop-i
invariant-loop-i l = l.snaps ≡ with_each l.fn.snaps (take l.i l.numbers)
