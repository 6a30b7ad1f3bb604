use Rattle.std.proofs.Common.{◌+◌}
use Rattle.wp_model.specs.History.{value_at}
use Rattle.wp_cover.specs.Store.{IsStore}
use Rattle.wp_cover.proofs.store.store_at.Given as goal

abbrev pub invariant-loop-entry : goal.invariant-loop-entry
invariant-loop-entry l = IsStore (λ key. value_at l.history.entries key (l.history.base + l.entry-index)) l.store
