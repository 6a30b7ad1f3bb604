use Rattle.std.proofs.Common.{◌≡◌, List, ◌++◌, length, map}
use Rattle.wp_model.specs.Batch.{key_of}
use Rattle.wp_model.specs.declared.change.Change.{Change}
use Rattle.wp_model.specs.declared.holder.Holder.TheVariants.{Txn}
use Rattle.wp_locks.specs.Locks.{Joins}
use Rattle.wp_locks.proofs.left.add_held.Given as goal

-- the keys of the last changes are there
abbrev pub invariant-loop-change : goal.invariant-loop-change
invariant-loop-change l = (done : List Change) × (l.changes ≡ l.left ++ done) × Joins (map (λ change. (key_of change, Txn l.name)) done) l.fn.keys l.keys

abbrev pub decreases-loop-change : goal.decreases-loop-change
decreases-loop-change l = length l.left
