use Rattle.std.proofs.Common.{length}
use Rattle.wp_model.specs.declared.row.Row.{Row}
use Rattle.wp_checkpoint.proofs.RowLists.{AreSoFar}
use Rattle.wp_checkpoint.proofs.image.row_versions.Given as goal

abbrev pub invariant-loop-versions : goal.invariant-loop-versions
invariant-loop-versions g l = record {
  so_far : AreSoFar (g.R.Rows.gives l.initial.rows) (g.R.Rows.left l.initial.rows) (g.R.Rows.left l.rows) l.versions.items;
  still : (row : Row) → g.R.Rows.gives l.rows row → g.R.Rows.gives l.initial.rows row;
  later : g.R.Rows.later l.initial.rows l.rows;
}

abbrev pub decreases-loop-versions : goal.decreases-loop-versions
decreases-loop-versions g l = length (g.R.Rows.left l.rows)
