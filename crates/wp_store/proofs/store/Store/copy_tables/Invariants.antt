use Rattle.std.proofs.Common.{◌≡◌, ◌++◌, map}
use Rattle.std.specs.Arc.{arc_value}
use Rattle.std.specs.VecDeque.Iter.{deque_iter_rest}
use Rattle.wp_store.proofs.store.Store.copy_tables.Given as goal

abbrev pub invariant-loop-table : goal.invariant-loop-table
invariant-loop-table l = map arc_value l.tables.items ++ map arc_value (deque_iter_rest l.table-iterator) ≡ l.self.tables
