use Rattle.std.proofs.Common.{◌≡◌, drop, map}
use Rattle.std.specs.Arc.{arc_value}
use Rattle.wp_model.specs.Versions.{version_at}
use Rattle.wp_merge.specs.Merge.{joined}
use Rattle.wp_cover.proofs.sources.version_in_tables.Given as goal

abbrev pub invariant-loop-table : goal.invariant-loop-table
invariant-loop-table l = version_at (joined (map arc_value (drop l.table-index l.tables))) l.key l.number ≡ version_at (joined (map arc_value l.tables)) l.key l.number

abbrev pub ghosts-version_in_table : goal.ghosts-version_in_table
ghosts-version_in_table a = record { name = a.blank.name; parts = a.blank.parts }
