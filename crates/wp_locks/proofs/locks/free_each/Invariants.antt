use Rattle.std.proofs.Common.{◌≡◌, take}
use Rattle.wp_locks.specs.Locks.{keys_without}
use Rattle.wp_locks.proofs.Maps.{map_of}
use Rattle.wp_locks.proofs.locks.free_each.Given as goal

-- the first keys are free
abbrev pub invariant-loop-key : goal.invariant-loop-key
invariant-loop-key l = map_of l.keys.entries ≡ keys_without (map_of l.fn.keys.entries) (take l.key-index l.freed)
