use Rattle.std.specs.Prelude.{[], ◌∷◌}
use Rattle.std.specs.FinMap as finite
use Rattle.wp_core.specs.States.{writes, prepared, snapshots}
use Rattle.wp_shared.specs.Notes.{is_flag, GoesOn, DelayedFlagTells, OldFlagTells}
use Rattle.wp_commits.proofs.passing.pass_all.Given as goal

abbrev pub invariant-loop-p : goal.invariant-loop-p
invariant-loop-p g l = record {
  goes : GoesOn is_flag (snapshots l.snaps ∷ prepared l.tables ∷ writes l.log.state ∷ []) l.fn.seat.turns l.fn.seat l.seat;
  delayed_flag : DelayedFlagTells l.seat.knows l.tables;
  old_flag : OldFlagTells l.seat.knows l.snaps;
}

abbrev pub decreases-loop-p : goal.decreases-loop-p
decreases-loop-p g l = finite.len l.tables.delayed_commits
