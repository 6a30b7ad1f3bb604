-- The value behind the store turn: the versions in memory and in tables, and the floor.
use Rattle.std.specs.Prelude.{◌≡◌, ℕ, List, ◌∷◌, None}
use Rattle.wp_model.specs.declared.version.Version.{Version}
use Rattle.wp_model.specs.Versions.{version_at}
use Rattle.wp_merge.specs.Merge.{joined, sorted_of}
use Rattle.wp_store.specs.Store.{StoreParts}
use Rattle.wp_core.specs.States.{StoreState}

-- the parts of the store, and the number from which on a reader finds all that it needs
pub record StockState : Type 0 where
  pub parts : StoreParts
  pub floor : ℕ

-- the state of the machine that it is: the frozen parts are in memory
abbrev pub store_state : StockState → StoreState
store_state s = record { memory = sorted_of (joined (s.parts.memory ∷ s.parts.frozen)); tables = sorted_of (joined s.parts.tables); floor = s.floor }

-- no version has the number
abbrev pub HasNoneAt : ℕ → List Version → Type 0
HasNoneAt n versions = (key : List ℕ) → version_at versions key n ≡ None
