-- The values of a closed table, by their turns.
use Rattle.wp_core.specs.Turns.{Turn, write_turn, prepared_turn, snapshots_turn, store_turn, locks_turn, tables_turn}
use Rattle.wp_rule.specs.declared.part.Parts.{Parts}

-- the value behind a turn
abbrev pub part_of : {S : Type 0} → Parts S → Turn → S
part_of parts write_turn = parts.write
part_of parts prepared_turn = parts.prepared
part_of parts snapshots_turn = parts.snapshots
part_of parts store_turn = parts.store
part_of parts locks_turn = parts.locks
part_of parts tables_turn = parts.tables
