use Rattle.std.proofs.Common.{◌≡◌, take}
use Rattle.wp_machine.proofs.actor.copy_locked.Given as goal

abbrev pub invariant-loop-key : goal.invariant-loop-key
invariant-loop-key l = l.copy.items ≡ take l.key-index l.locked
