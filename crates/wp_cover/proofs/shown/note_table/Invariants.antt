use Rattle.wp_cover.specs.declared.shown.Newest.{Newest}
use Rattle.wp_cover.specs.Shown.{Notes}
use Rattle.wp_cover.proofs.shown.note_table.Given as goal

abbrev pub invariant-loop-version : goal.invariant-loop-version
invariant-loop-version l = (new : Newest) → Notes l.decisions l.n l.version-iterator l.newest new → Notes l.decisions l.n l.table l.initial.newest new
