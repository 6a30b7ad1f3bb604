-- What was passed of the versions of a key.
use Rattle.std.specs.Prelude.{ℕ, Bool, false, ◌&&◌, List, [], ◌∷◌, Option, Some, None, nat_le}
use Rattle.std.specs.Str.{bytes_eq}
use Rattle.wp_model.specs.declared.version.Version.{Version}

-- the noted key is this one, and is committed at n by the noted number
abbrev pub is_above : Option (List ℕ × ℕ) → List ℕ → ℕ → Bool
is_above None key n = false
is_above (Some noted) key n = bytes_eq noted.0 key && nat_le noted.1 n

-- the first version is of the key
abbrev pub starts_with_key : List Version → List ℕ → Bool
starts_with_key [] key = false
starts_with_key (v ∷ vs) key = bytes_eq v.key key
