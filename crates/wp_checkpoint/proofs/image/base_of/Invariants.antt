use Rattle.std.proofs.Common.{◌≡◌, take}
use Rattle.wp_checkpoint.proofs.image.base_of.Given as goal

abbrev pub invariant-loop-prepare : goal.invariant-loop-prepare
invariant-loop-prepare l = l.copies.items ≡ take l.prepare-index l.carried
