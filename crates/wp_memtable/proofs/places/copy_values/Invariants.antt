use Rattle.std.proofs.Common.{◌≡◌, take, map}
use Rattle.wp_model.specs.Batch.{value_of}
use Rattle.wp_memtable.proofs.places.copy_values.Given as goal

abbrev pub invariant-loop-change : goal.invariant-loop-change
invariant-loop-change l = l.values.items ≡ map value_of (take l.change-index l.changes)
