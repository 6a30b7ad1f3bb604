use Rattle.std.proofs.Common.{◌≡◌, ◌*◌, ◌-◌, ◌++◌, length}
use Rattle.wp_manifest.specs.Edit.{ArePlaces, places_bytes}
use Rattle.wp_manifest.proofs.read.read_places.Given as goal

abbrev pub invariant-loop : goal.invariant-loop
invariant-loop l = record {
  read : l.fn.fields ≡ places_bytes l.tables.items ++ l.fields;
  counted : length l.tables.items ≡ l.counter;
  left : length l.fields ≡ (l.count - l.counter) * 16;
  places : ArePlaces l.tables.items;
}
