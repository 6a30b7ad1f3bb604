use Rattle.std.proofs.Common.{◌≡◌, map, take}
use Rattle.wp_model.specs.Batch.{key_of}
use Rattle.wp_locks.specs.Locks.{keys_without}
use Rattle.wp_locks.proofs.Maps.{map_of}
use Rattle.wp_locks.proofs.locks.free_keys.Given as goal

-- the keys of the first changes are free
abbrev pub invariant-loop-change : goal.invariant-loop-change
invariant-loop-change l = map_of l.keys.entries ≡ keys_without (map_of l.fn.keys.entries) (map key_of (take l.change-index l.changes))
