-- What the versions of one key are, however many there are.
use Rattle.std.specs.Prelude.{[], ◌∷◌}
use Rattle.wp_memtable.specs.declared.key_versions.Kept.{Kept}
use Rattle.wp_memtable.specs.declared.key_versions.Kept.TheVariants.{Empty, One, Many}
use Rattle.wp_memtable.specs.KeyVersions.{RoomyVersions}

abbrev pub kept_versions : Kept → RoomyVersions
kept_versions Empty = record { versions = []; room = 1 }
kept_versions (One version) = record { versions = version ∷ []; room = 0 }
kept_versions (Many several) = several
