use Rattle.std.proofs.Common.{◌≡◌}
use Rattle.std.specs.List.{AllByRecursion}
use Rattle.std.specs.Option.{option_map}
use Rattle.std.specs.VecDeque.Iter.{deque_iter_rest}
use Rattle.wp_table.specs.Borrowed.{seen}
use Rattle.wp_store.specs.Store.{least_next, AreWords, IsCopyable}
use Rattle.wp_store.proofs.OneMerge.{AreAllInOrder}
use Rattle.wp_store.proofs.next_version.least_in_frozen.Given as goal

abbrev pub invariant-loop-part : goal.invariant-loop-part
invariant-loop-part l = record {
  found : least_next l.above l.key (option_map seen l.so_far) (deque_iter_rest l.part-iterator) ≡ least_next l.above l.key (option_map seen l.fn.least) l.frozen.items;
  copied : IsCopyable l.so_far;
  in_order : AreAllInOrder (deque_iter_rest l.part-iterator) → AreAllInOrder l.frozen.items;
  in_range : AllByRecursion AreWords (deque_iter_rest l.part-iterator) → AllByRecursion AreWords l.frozen.items;
}
