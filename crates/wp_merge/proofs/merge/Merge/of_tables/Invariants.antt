use Rattle.std.proofs.Common.{◌≡◌, ℕ, List, map}
use Rattle.std.specs.Arc.{arc_value}
use Rattle.std.specs.Option.{option_or}
use Rattle.std.specs.VecDeque.Iter.{deque_iter_rest}
use Rattle.wp_model.specs.Versions.{AreInOrder, version_at}
use Rattle.wp_merge.specs.Merge.{first_at}
use Rattle.wp_merge.proofs.merge.Merge.of_tables.Given as goal

abbrev pub invariant-loop-table : goal.invariant-loop-table
invariant-loop-table l = record {
  in_order : AreInOrder l.versions.items;
  each : (key : List ℕ) (n : ℕ) → option_or (version_at l.versions.items key n) (first_at (map arc_value (deque_iter_rest l.table-iterator)) key n) ≡ first_at (map arc_value l.tables.items) key n;
}
