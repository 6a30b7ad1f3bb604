use Rattle.wp_model.specs.History.{value_at}
use Rattle.wp_cover.specs.Store.{IsStore}
use Rattle.wp_cover.proofs.Stores.{AreLeft, but_left}
use Rattle.wp_cover.proofs.store.base_store.Given as goal

abbrev pub invariant-loop-key : goal.invariant-loop-key
invariant-loop-key l = record {
  left : AreLeft l.key-iterator (λ key. value_at l.history.entries key l.history.base);
  has : IsStore (but_left l.key-iterator (λ key. value_at l.history.entries key l.history.base)) l.store;
}
