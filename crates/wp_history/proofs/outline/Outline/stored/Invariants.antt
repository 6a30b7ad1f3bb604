use Rattle.std.proofs.Common.{◌+◌, take}
use Rattle.wp_model.specs.History.{newest}
use Rattle.wp_history.specs.History.{IsStore}
use Rattle.wp_history.proofs.outline.Outline.stored.Given as goal

abbrev pub invariant-loop-entry : goal.invariant-loop-entry
invariant-loop-entry l = IsStore (newest (take (l.self.base + l.entry-index) l.self.entries)) l.store
