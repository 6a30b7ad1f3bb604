use Rattle.std.proofs.Common.{◌≡◌, ◌++◌, ◌-◌, drop, length}
use Rattle.wp_memtable.specs.Bounds.{between}
use Rattle.wp_memtable.specs.Memtable.{under}
use Rattle.wp_memtable.proofs.memtable.copy_under.Given as goal

abbrev pub invariant-loop-number : goal.invariant-loop-number
invariant-loop-number l = l.list.items ++ between l.bounds (under l.key (drop l.i l.versions.versions)) ≡ l.fn.list.items ++ between l.bounds (under l.key l.versions.versions)

abbrev pub decreases-loop-number : goal.decreases-loop-number
decreases-loop-number l = length l.versions.versions - l.i
