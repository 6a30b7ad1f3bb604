use Rattle.std.proofs.Common.{◌≤◌, drop}
use Rattle.wp_model.specs.Flushed.{versions_after, later_versions}
use Rattle.wp_cover.specs.declared.shown.Newest.{Newest}
use Rattle.wp_cover.specs.Shown.{Notes}
use Rattle.wp_cover.proofs.shown.note_later.Given as goal

abbrev pub invariant-loop-i : goal.invariant-loop-i
invariant-loop-i l = record {
  from : l.flushed ≤ l.i;
  noted : (new : Newest) → Notes l.decisions l.n (versions_after l.i (drop l.i l.history.entries)) l.newest new → Notes l.decisions l.n (later_versions l.history.entries l.flushed) l.initial.newest new;
}
