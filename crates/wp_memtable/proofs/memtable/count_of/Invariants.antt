use Rattle.std.proofs.Common.{◌≡◌, ◌+◌, length}
use Rattle.wp_memtable.specs.Memtable.{versions_in}
use Rattle.wp_memtable.proofs.memtable.count_of.Given as goal

abbrev pub invariant-loop-versions : goal.invariant-loop-versions
invariant-loop-versions l = l.count + length (versions_in l.versions-iterator) ≡ length (versions_in l.places.entries)
