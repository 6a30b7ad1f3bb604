use Rattle.std.proofs.Common.{◌≡◌, ◌++◌}
use Rattle.std.specs.VecDeque.Iter.{deque_iter_rest}
use Rattle.wp_store.proofs.sources.push_frozen.Given as goal

abbrev pub invariant-loop-part : goal.invariant-loop-part
invariant-loop-part l = l.sources.items ++ deque_iter_rest l.part-iterator ≡ l.fn.sources.items ++ l.frozen.items
