use Rattle.std.proofs.Common.{◌≡◌, ℕ, ◌+◌, ◌≤◌, ◌==◌, List, length, take, drop, map, if◌then◌else◌}
use Rattle.std.specs.Option.{option_or}
use Rattle.wp_model.specs.Batch.{change_to, value_of}
use Rattle.wp_model.specs.Versions.{version_at}
use Rattle.wp_memtable.specs.Memtable.{versions_in, AreWellOrdered, HavePlaces}
use Rattle.wp_memtable.proofs.places.put_all.Given as goal

abbrev pub invariant-loop-value : goal.invariant-loop-value
invariant-loop-value l = record {
  left : l.values.items ≡ map value_of (take (length l.values.items) l.changes);
  few : length l.values.items ≤ length l.changes;
  places : HavePlaces l.places.entries l.changes l.n;
  well_ordered : AreWellOrdered l.places.entries;
  count : length (versions_in l.places.entries) ≡ length (versions_in l.fn.places.entries) + l.more;
  most : l.more + length l.values.items ≤ length l.changes;
  each : (key : List ℕ) (m : ℕ) → version_at (versions_in l.places.entries) key m ≡ (if m == l.n then option_or (change_to (drop (length l.values.items) l.changes) key) (version_at (versions_in l.fn.places.entries) key m) else version_at (versions_in l.fn.places.entries) key m);
}

abbrev pub decreases-loop-value : goal.decreases-loop-value
decreases-loop-value l = length l.values.items
