-- Versions that are borrowed from the bytes of a table.
use Rattle.std.specs.Prelude.{ℕ, Bool, false, List, [], ◌∷◌, Option, Some, None, if◌then◌else◌}
use Rattle.std.specs.Option.{option_copied}
use Rattle.std.specs.Ordering.{is_lt, is_le}
use Rattle.std.specs.Str.{bytes_eq}
use Rattle.wp_model.specs.Batch.{key_cmp}
use Rattle.wp_model.specs.declared.version.Version.{Version}
use Rattle.wp_table.specs.declared.version.VersionRef.{VersionRef}

-- the version that is borrowed
abbrev pub seen : VersionRef → Version
seen v = record { key = v.key.now; number = v.number; value = option_copied v.value }

-- the version, if there is one, before the others; nothing comes after none
abbrev pub with_next : Option Version → List Version → List Version
with_next None versions = []
with_next (Some v) versions = v ∷ versions

-- the other key comes before what is looked for: it is below the key, or, where what is above it is looked for, not above it
abbrev pub is_short : (above : Bool) → (key other : List ℕ) → Bool
is_short above key other = if above then is_le (key_cmp other key) else is_lt (key_cmp other key)

-- the first of the versions has a key before what is looked for
abbrev pub begins_short : (above : Bool) → List ℕ → List Version → Bool
begins_short above key [] = false
begins_short above key (v ∷ versions) = is_short above key v.key

-- the versions without those in front that have such keys
abbrev pub skip_short : (above : Bool) → List ℕ → List Version → List Version
skip_short above key [] = []
skip_short above key (v ∷ versions) = if is_short above key v.key then skip_short above key versions else v ∷ versions

-- the first of the versions has a lesser key
abbrev pub begins_below : List ℕ → List Version → Bool
begins_below key versions = begins_short false key versions

-- the versions in front that have the key
abbrev pub front_with : List ℕ → List Version → List Version
front_with key [] = []
front_with key (v ∷ versions) = if bytes_eq v.key key then v ∷ front_with key versions else []
