use Rattle.std.proofs.Common.{◌≡◌, true}
use Rattle.std.specs.List.{list_all}
use Rattle.wp_table.specs.Table.{has_words}
use Rattle.wp_cover.specs.Present.{AreParts}
use Rattle.wp_cover.specs.Sources.{all_of}
use Rattle.wp_cover.proofs.present.is_table_part.Given as goal

abbrev pub invariant-loop-version : goal.invariant-loop-version
invariant-loop-version l = record {
  in_range : list_all has_words l.version-iterator ≡ true;
  onward : AreParts l.sources.history.now (all_of l.sources) l.table → AreParts l.sources.history.now (all_of l.sources) l.version-iterator;
  back : AreParts l.sources.history.now (all_of l.sources) l.version-iterator → AreParts l.sources.history.now (all_of l.sources) l.table;
}
