use Rattle.std.proofs.Common.{ℕ, List, Option}
use Rattle.wp_history.specs.History.{IsStore}
use Rattle.wp_history.proofs.StoreMaps.{but_left, AreLeft}
use Rattle.wp_history.proofs.stored.copied.Given as goal

abbrev pub invariant-loop-key : goal.invariant-loop-key
invariant-loop-key l = (values : List ℕ → Option (List ℕ)) → IsStore values l.store → AreLeft l.key-iterator values × IsStore (but_left l.key-iterator values) l.copy
