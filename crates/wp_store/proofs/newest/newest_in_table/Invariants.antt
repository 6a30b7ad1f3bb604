use Rattle.std.proofs.Common.{◌≡◌, ◌++◌, true, take}
use Rattle.std.specs.Iterator.Adapters.{take_source, take_count}
use Rattle.std.specs.List.{list_all}
use Rattle.wp_table.specs.Table.{has_words}
use Rattle.wp_store.specs.Store.{newest_of}
use Rattle.wp_store.proofs.newest.newest_in_table.Given as goal

abbrev pub invariant-loop-version : goal.invariant-loop-version
invariant-loop-version g l = record {
  newest : l.list.items ++ take (take_count l.version-iterator) (take_source l.version-iterator) ≡ newest_of l.n l.key l.table;
  in_range : list_all has_words (take_source l.version-iterator) ≡ true;
}
