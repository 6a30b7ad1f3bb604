use Rattle.std.proofs.Common.{ℕ, ◌≤◌, List, Option, length, drop}
use Rattle.wp_history.specs.History.{IsStore}
use Rattle.wp_history.proofs.StoreMaps.{made}
use Rattle.wp_history.proofs.stored.leave_all.Given as goal

abbrev pub invariant-loop-i : goal.invariant-loop-i
invariant-loop-i l = record {
  within : l.i ≤ length l.changes;
  made : (values : List ℕ → Option (List ℕ)) → IsStore values l.fn.store → IsStore (made (drop l.i l.changes) values) l.store;
}

abbrev pub decreases-loop-i : goal.decreases-loop-i
decreases-loop-i l = l.i
