use Rattle.std.proofs.Common.{◌≡◌, ◌++◌, map}
use Rattle.std.specs.Arc.{arc_value}
use Rattle.std.specs.VecDeque.Iter.{deque_iter_rest}
use Rattle.wp_store.specs.Store.{newest_of}
use Rattle.wp_store.proofs.OneMerge.{AreAllInOrder}
use Rattle.wp_store.proofs.sources.push_newest_tables.Given as goal

abbrev pub invariant-loop-table : goal.invariant-loop-table
invariant-loop-table l = record {
  newest : l.sources.items ++ map (newest_of l.n l.key) (map arc_value (deque_iter_rest l.table-iterator)) ≡ l.fn.sources.items ++ map (newest_of l.n l.key) (map arc_value l.tables.items);
  in_order : AreAllInOrder (map arc_value (deque_iter_rest l.table-iterator)) → AreAllInOrder (map arc_value l.tables.items);
}

abbrev pub ghosts-newest_in_table : goal.ghosts-newest_in_table
ghosts-newest_in_table a = record { name = a.blank.name; parts = a.blank.parts }
