use Rattle.std.proofs.Common.{◌≡◌, suc, ◌+◌, length, take}
use Rattle.wp_core.specs.Views.{none_waits}
use Rattle.wp_rule.specs.Knows.{Noted}
use Rattle.wp_shared.specs.Notes.{GoesOn}
use Rattle.wp_commits.specs.Notes.{is_of_words}
use Rattle.wp_commits.specs.Ways.{ways_of, AnyClears, RisesFor, AreCleared}
use Rattle.wp_commits.proofs.clear.clear_all.Given as goal

abbrev pub invariant-loop-entry : goal.invariant-loop-entry
invariant-loop-entry g l = record {
  number : l.n ≡ length l.log.state.history + l.entry-index;
  goes : GoesOn is_of_words l.fn.seat.knows.held l.fn.seat.turns l.fn.seat l.seat;
  bound : RisesFor l.store.cells (length l.log.state.history) l.fn.seat.knows l.seat.knows (take l.entry-index (ways_of l.store.cells (suc (length l.log.state.history)) l.log.state.pending));
  cleared : AreCleared l.seat.knows l.store.cells (take l.entry-index (ways_of l.store.cells (suc (length l.log.state.history)) l.log.state.pending));
  waits : AnyClears (take l.entry-index (ways_of l.store.cells (suc (length l.log.state.history)) l.log.state.pending)) → Noted l.seat.knows none_waits;
}
