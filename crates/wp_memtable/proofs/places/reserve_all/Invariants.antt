use Rattle.std.proofs.Common.{◌≡◌, ℕ, take}
use Rattle.wp_memtable.specs.Memtable.{versions_in, AreWellOrdered, HavePlaces}
use Rattle.wp_memtable.proofs.places.reserve_all.Given as goal

abbrev pub invariant-loop-change : goal.invariant-loop-change
invariant-loop-change l = record {
  places : (n : ℕ) → HavePlaces l.places.entries (take l.change-index l.changes) n;
  same_versions : versions_in l.places.entries ≡ versions_in l.fn.places.entries;
  well_ordered : AreWellOrdered l.places.entries;
}
