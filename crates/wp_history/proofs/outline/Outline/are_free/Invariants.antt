use Rattle.std.proofs.Common.{drop}
use Rattle.wp_model.specs.Legal.{AreFree}
use Rattle.wp_history.proofs.outline.Outline.are_free.Given as goal

abbrev pub invariant-loop-change : goal.invariant-loop-change
invariant-loop-change l = record {
  onward : AreFree l.self.entries l.changes → AreFree l.self.entries (drop l.change-index l.changes);
  back : AreFree l.self.entries (drop l.change-index l.changes) → AreFree l.self.entries l.changes;
}
