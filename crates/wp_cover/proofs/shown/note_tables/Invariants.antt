use Rattle.std.proofs.Common.{drop, map}
use Rattle.std.specs.Arc.{arc_value}
use Rattle.wp_merge.specs.Merge.{joined}
use Rattle.wp_cover.specs.declared.shown.Newest.{Newest}
use Rattle.wp_cover.specs.Shown.{Notes}
use Rattle.wp_cover.proofs.shown.note_tables.Given as goal

abbrev pub invariant-loop-table : goal.invariant-loop-table
invariant-loop-table l = (new : Newest) → Notes l.decisions l.n (joined (map arc_value (drop l.table-index l.tables))) l.newest new → Notes l.decisions l.n (joined (map arc_value l.tables)) l.initial.newest new
