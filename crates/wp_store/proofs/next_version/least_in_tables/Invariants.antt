use Rattle.std.proofs.Common.{◌≡◌, map}
use Rattle.std.specs.Arc.{arc_value}
use Rattle.std.specs.List.{AllByRecursion}
use Rattle.std.specs.Option.{option_map}
use Rattle.std.specs.VecDeque.Iter.{deque_iter_rest}
use Rattle.wp_table.specs.Borrowed.{seen}
use Rattle.wp_store.specs.Store.{least_next, AreWords, IsCopyable}
use Rattle.wp_store.proofs.OneMerge.{AreAllInOrder}
use Rattle.wp_store.proofs.next_version.least_in_tables.Given as goal

abbrev pub invariant-loop-table : goal.invariant-loop-table
invariant-loop-table l = record {
  found : least_next l.above l.key (option_map seen l.so_far) (map arc_value (deque_iter_rest l.table-iterator)) ≡ least_next l.above l.key (option_map seen l.fn.least) (map arc_value l.tables.items);
  copied : IsCopyable l.so_far;
  in_order : AreAllInOrder (map arc_value (deque_iter_rest l.table-iterator)) → AreAllInOrder (map arc_value l.tables.items);
  in_range : AllByRecursion AreWords (map arc_value (deque_iter_rest l.table-iterator)) → AllByRecursion AreWords (map arc_value l.tables.items);
}

abbrev pub ghosts-next_in_table : goal.ghosts-next_in_table
ghosts-next_in_table a = record { name = a.blank.name; parts = a.blank.parts }
