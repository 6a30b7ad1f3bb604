use Rattle.std.proofs.Common.{◌≡◌, ◌++◌}
use Rattle.wp_memtable.specs.Bounds.{between}
use Rattle.wp_memtable.specs.Memtable.{versions_in}
use Rattle.wp_memtable.proofs.memtable.Memtable.all_between.Given as goal

abbrev pub invariant-loop-key : goal.invariant-loop-key
invariant-loop-key l = l.list.items ++ between l.bounds (versions_in l.key-iterator) ≡ between l.bounds (versions_in l.self-inside.places.entries)
