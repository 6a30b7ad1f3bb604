use Rattle.std.proofs.Common.{drop}
use Rattle.wp_model.specs.declared.holder.Holder.TheVariants.{Txn}
use Rattle.wp_core.specs.Lists.{IsIn}
use Rattle.wp_core.specs.Views.{locked}
use Rattle.wp_machine_permits.specs.Each.{Each}
use Rattle.wp_machine_permits.proofs.permitted.publishing.were_locked.Given as goal

abbrev pub invariant-loop-key : goal.invariant-loop-key
invariant-loop-key l = Each (λ key. IsIn (locked key (Txn l.name)) l.past) (drop l.key-index l.keys) → Each (λ key. IsIn (locked key (Txn l.name)) l.past) l.keys
