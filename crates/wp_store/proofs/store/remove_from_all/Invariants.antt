use Rattle.std.proofs.Common.{◌≡◌, ◌++◌, map, take, drop}
use Rattle.wp_memtable.specs.Memtable.{below}
use Rattle.wp_store.proofs.store.remove_from_all.Given as goal

abbrev pub invariant-loop-i : goal.invariant-loop-i
invariant-loop-i l = l.parts.items ≡ map (below l.n) (take l.i l.fn.parts.items) ++ drop l.i l.fn.parts.items
