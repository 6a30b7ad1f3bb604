use Rattle.std.proofs.Common.{◌≡◌, Some, drop}
use Rattle.std.specs.FinMap as finite
use Rattle.wp_model.specs.declared.holder.Holder.TheVariants.{Txn}
use Rattle.wp_machine_permits.specs.Each.{Each}
use Rattle.wp_machine_permits.proofs.needs.unchanged.are_held.Given as goal

abbrev pub invariant-loop-key : goal.invariant-loop-key
invariant-loop-key l = Each (λ key. finite.get l.locks.keys key ≡ Some (Txn l.name)) (drop l.key-index l.keys) → Each (λ key. finite.get l.locks.keys key ≡ Some (Txn l.name)) l.keys
