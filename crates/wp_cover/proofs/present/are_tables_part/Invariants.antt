use Rattle.std.proofs.Common.{drop, map}
use Rattle.std.specs.Arc.{arc_value}
use Rattle.wp_merge.specs.Merge.{joined}
use Rattle.wp_cover.specs.Present.{AreParts}
use Rattle.wp_cover.specs.Sources.{all_of}
use Rattle.wp_cover.proofs.present.are_tables_part.Given as goal

abbrev pub invariant-loop-table : goal.invariant-loop-table
invariant-loop-table l = record {
  onward : AreParts l.sources.history.now (all_of l.sources) (joined (map arc_value l.sources.tables.now)) → AreParts l.sources.history.now (all_of l.sources) (joined (map arc_value (drop l.table-index l.sources.tables.now)));
  back : AreParts l.sources.history.now (all_of l.sources) (joined (map arc_value (drop l.table-index l.sources.tables.now))) → AreParts l.sources.history.now (all_of l.sources) (joined (map arc_value l.sources.tables.now));
}
