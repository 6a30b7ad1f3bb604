-- Tables in the bytes of a file.
use Rattle.std.specs.Prelude.{◌≡◌, ℕ, List, [], ◌∷◌, ◌++◌, length}
use Rattle.wp_model.specs.declared.version.Version.{Version}
use Rattle.wp_table.specs.Table.{SpellsTable}

-- a table of these versions is in the bytes: it begins at that place, and has that length
pub record HasTable (id flushed : ℕ) (bytes : List ℕ) (placed : ℕ × ℕ) (versions : List Version) : Type 0 where
  pub before : List ℕ
  pub spelling : List ℕ
  pub after : List ℕ
  pub parts : bytes ≡ before ++ (spelling ++ after)
  pub place : length before ≡ placed.0
  pub size : length spelling ≡ placed.1
  pub is : SpellsTable id flushed versions spelling

-- at each of these places the bytes have a table, of these versions in order
abbrev pub HasTables : ℕ → ℕ → List ℕ → List (ℕ × ℕ) → List (List Version) → Type 0
HasTables id flushed bytes [] [] = Unit {0}
HasTables id flushed bytes [] (versions ∷ others) = ⊥
HasTables id flushed bytes (placed ∷ places) [] = ⊥
HasTables id flushed bytes (placed ∷ places) (versions ∷ others) = HasTable id flushed bytes placed versions × HasTables id flushed bytes places others
