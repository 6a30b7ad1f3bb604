use Rattle.std.proofs.Common.{drop, ◌≡◌, Some}
use Rattle.std.specs.FinMap as finite
use Rattle.wp_model.specs.declared.change.Change.{Change}
use Rattle.wp_model.specs.declared.holder.Holder.TheVariants.{Txn}
use Rattle.wp_model.specs.Batch.{key_of}
use Rattle.wp_machine_permits.specs.Each.{Each}
use Rattle.wp_machine_permits.proofs.needs.transactions.each_is_held_for.Given as goal

abbrev pub invariant-loop-change : goal.invariant-loop-change
invariant-loop-change l = record {
  onward : Each (λ (change : Change). finite.get l.locks.keys (key_of change) ≡ Some (Txn l.name)) l.changes → Each (λ (change : Change). finite.get l.locks.keys (key_of change) ≡ Some (Txn l.name)) (drop l.change-index l.changes);
  back : Each (λ (change : Change). finite.get l.locks.keys (key_of change) ≡ Some (Txn l.name)) (drop l.change-index l.changes) → Each (λ (change : Change). finite.get l.locks.keys (key_of change) ≡ Some (Txn l.name)) l.changes;
}
