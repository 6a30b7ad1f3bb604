-- Versions, and lists of them in order.
use Rattle.std.specs.Prelude.{ℕ, ◌==◌, ◌&&◌, List, [], ◌∷◌, Option, Some, None, if◌then◌else◌}
use Rattle.std.specs.declared.cmp.Ordering.{Ordering}
use Rattle.std.specs.Ordering.{nat_cmp, ordering_then}
use Rattle.std.specs.List.Sorted.{IsStrictlySortedBy}
use Rattle.std.specs.Str.{bytes_eq}
use Rattle.wp_model.specs.Batch.{key_cmp}
use Rattle.wp_model.specs.declared.version.Version.{Version}

-- the order of versions: by key, of one key the greater number first
abbrev pub version_cmp : Version → Version → Ordering
version_cmp v w = ordering_then (key_cmp v.key w.key) (nat_cmp w.number v.number)

-- each version is before all that follow it
abbrev pub AreInOrder : List Version → Type 0
AreInOrder = IsStrictlySortedBy version_cmp

-- what the versions have under the key and the number: nothing, or a value, or none for a deletion
abbrev pub version_at : List Version → List ℕ → ℕ → Option (Option (List ℕ))
version_at [] key n = None
version_at (v ∷ vs) key n = if bytes_eq v.key key && (v.number == n) then Some v.value else version_at vs key n
