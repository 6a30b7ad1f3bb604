use Rattle.std.proofs.Common.{◌≡◌, ◌++◌, map}
use Rattle.std.specs.VecDeque.Iter.{deque_iter_rest}
use Rattle.wp_store.specs.Store.{newest_of}
use Rattle.wp_store.proofs.OneMerge.{AreAllInOrder}
use Rattle.wp_store.proofs.sources.push_newest_frozen.Given as goal

abbrev pub invariant-loop-part : goal.invariant-loop-part
invariant-loop-part l = record {
  newest : l.sources.items ++ map (newest_of l.n l.key) (deque_iter_rest l.part-iterator) ≡ l.fn.sources.items ++ map (newest_of l.n l.key) l.frozen.items;
  in_order : AreAllInOrder (deque_iter_rest l.part-iterator) → AreAllInOrder l.frozen.items;
}
