-- What lists of versions have in common up to a number.
use Rattle.std.specs.Prelude.{◌≡◌, ℕ, ◌≤◌, List}
use Rattle.wp_model.specs.declared.version.Version.{Version}
use Rattle.wp_model.specs.Versions.{version_at}

-- both have the same under each key at each number up to this one
abbrev pub HaveSameUpTo : ℕ → List Version → List Version → Type 0
HaveSameUpTo n one other = (key : List ℕ) (p : ℕ) → p ≤ n → version_at one key p ≡ version_at other key p
