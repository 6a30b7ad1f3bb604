use Rattle.std.proofs.Common.{drop}
use Rattle.wp_cover.specs.declared.shown.Newest.{Newest}
use Rattle.wp_cover.specs.Shown.{Notes}
use Rattle.wp_cover.proofs.shown.note_list.Given as goal

abbrev pub invariant-loop-version : goal.invariant-loop-version
invariant-loop-version l = (new : Newest) → Notes l.decisions l.n (drop l.version-index l.version-items) l.newest new → Notes l.decisions l.n l.versions l.initial.newest new
