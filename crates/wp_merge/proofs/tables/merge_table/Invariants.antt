use Rattle.std.proofs.Common.{◌≡◌, ◌++◌, true, length}
use Rattle.std.specs.List.{list_all}
use Rattle.std.specs.Option.{option_map}
use Rattle.wp_table.specs.Borrowed.{seen, with_next}
use Rattle.wp_table.specs.Table.{has_words}
use Rattle.wp_merge.specs.Merge.{merge_of}
use Rattle.wp_merge.proofs.tables.merge_table.Given as goal

abbrev pub invariant-loop-merged : goal.invariant-loop-merged
invariant-loop-merged l = record {
  merged : l.merged.items ++ merge_of l.list.items (with_next (option_map seen l.next) l.rest) ≡ merge_of l.fn.list.items l.table;
  in_range : list_all has_words (with_next (option_map seen l.next) l.rest) ≡ true;
}

abbrev pub decreases-loop-merged : goal.decreases-loop-merged
decreases-loop-merged l = length (merge_of l.list.items (with_next (option_map seen l.next) l.rest))
