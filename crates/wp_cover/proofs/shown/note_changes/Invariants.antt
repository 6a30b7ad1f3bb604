use Rattle.std.proofs.Common.{drop}
use Rattle.wp_model.specs.Flushed.{versions_under}
use Rattle.wp_cover.specs.declared.shown.Newest.{Newest}
use Rattle.wp_cover.specs.Shown.{Notes}
use Rattle.wp_cover.proofs.shown.note_changes.Given as goal

abbrev pub invariant-loop-change : goal.invariant-loop-change
invariant-loop-change l = (new : Newest) → Notes l.decisions l.n (versions_under l.number (drop l.change-index l.changes)) l.newest new → Notes l.decisions l.n (versions_under l.number l.changes) l.initial.newest new
