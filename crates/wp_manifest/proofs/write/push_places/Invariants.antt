use Rattle.std.proofs.Common.{◌≡◌, ◌++◌, take}
use Rattle.wp_manifest.specs.Edit.{ArePlaces, places_bytes}
use Rattle.wp_manifest.proofs.write.push_places.Given as goal

abbrev pub invariant-loop-table : goal.invariant-loop-table
invariant-loop-table l = record {
  pushed : l.out.items ≡ l.fn.out.items ++ places_bytes (take l.table-index l.tables);
  in_range : ArePlaces (take l.table-index l.tables);
}
