use Rattle.std.proofs.Common.{◌≡◌, take}
use Rattle.wp_read.specs.Registers.{numbers_of}
use Rattle.wp_compact.proofs.pins.numbers_of.Given as goal

abbrev pub invariant-loop-i : goal.invariant-loop-i
invariant-loop-i l = l.numbers.items ≡ numbers_of (take l.i l.live)
