use Rattle.std.proofs.Common.{◌≡◌, ◌++◌}
use Rattle.std.specs.VecDeque.Iter.{deque_iter_rest}
use Rattle.wp_store.proofs.frozen_parts.push_shares.Given as goal

abbrev pub invariant-loop-part : goal.invariant-loop-part
invariant-loop-part l = l.shared.items ++ deque_iter_rest l.part-iterator ≡ l.fn.shared.items ++ l.parts.items
