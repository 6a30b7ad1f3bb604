use Rattle.std.proofs.Common.{◌≡◌, ◌++◌, take, filter, nat_le}
use Rattle.wp_machine.proofs.prepared.move_up_to.Given as goal

abbrev pub invariant-loop-p : goal.invariant-loop-p
invariant-loop-p l = l.delayed.items ≡ l.initial.delayed.items ++ filter (λ p. nat_le p l.m) (take l.p-index l.p-items)
