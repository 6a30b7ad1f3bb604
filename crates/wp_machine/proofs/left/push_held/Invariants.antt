use Rattle.std.proofs.Common.{◌≡◌, ◌++◌, take, map}
use Rattle.wp_model.specs.Batch.{key_of}
use Rattle.wp_model.specs.declared.holder.Holder.TheVariants.{Txn}
use Rattle.wp_machine.proofs.left.push_held.Given as goal

abbrev pub invariant-loop-change : goal.invariant-loop-change
invariant-loop-change l = l.keys.items ≡ l.initial.keys.items ++ map (λ change. (key_of change, Txn l.name)) (take l.change-index l.changes)
