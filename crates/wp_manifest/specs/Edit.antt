-- Edits, and the one spelling of each. One of the first form names no place of the log, one of the second does.
use Rattle.std.specs.Prelude.{◌≡◌, ℕ, ◌<◌, ◌≤◌, ◌^◌, List, [], ◌∷◌, ◌++◌, length, Option, Some, None, unwrap_or}
use Rattle.std.specs.Int.{w32, w64, to_be_bytes}
use Rattle.std.specs.List.{flat_map}
use Rattle.wp_manifest.specs.declared.edit.TheConstants.{MARK}

-- the number up to which entries are in tables; where on its device the log begins, which is at its beginning if that is
-- not said; and of each table its place and its length, the newest first
pub record Edit : Type 0 where
  pub flushed : ℕ
  pub place : Option ℕ
  pub tables : List (ℕ × ℕ)

-- nothing is flushed, and there is no table
abbrev pub no_edit : Edit
no_edit = record { flushed = 0; place = None; tables = [] }

-- where on its device the log begins
abbrev pub place_of : Edit → ℕ
place_of edit = unwrap_or edit.place 0

-- a table: its place and its length, in eight bytes each
abbrev pub place_bytes : ℕ × ℕ → List ℕ
place_bytes table = to_be_bytes w64 table.0 ++ to_be_bytes w64 table.1

abbrev pub places_bytes : List (ℕ × ℕ) → List ℕ
places_bytes tables = flat_map place_bytes tables

-- The numbers at the front. In the first form the flushed number and the count of tables, in four bytes each. In the second
-- a flushed number and a count that no edit of the first has, and then the flushed number, the log's place and the count of
-- tables, in eight bytes each.
abbrev pub front_bytes : Option ℕ → ℕ → ℕ → List ℕ
front_bytes None flushed count = to_be_bytes w32 flushed ++ to_be_bytes w32 count
front_bytes (Some place) flushed count = to_be_bytes w32 0 ++ (to_be_bytes w32 MARK ++ (to_be_bytes w64 flushed ++ (to_be_bytes w64 place ++ to_be_bytes w64 count)))

-- the numbers at the front, and the tables
abbrev pub edit_bytes : Edit → List ℕ
edit_bytes edit = front_bytes edit.place edit.flushed (length edit.tables) ++ places_bytes edit.tables

-- the numbers fit in their bytes, and those of the first form do not begin the second
abbrev pub IsFront : Option ℕ → ℕ → ℕ → Type 0
IsFront None flushed count = (flushed < 2 ^ 32) × (count < 2 ^ 32) × (flushed ≡ 0 → count ≡ MARK → ⊥)
IsFront (Some place) flushed count = (flushed < 2 ^ 64) × (place < 2 ^ 64) × (count < 2 ^ 64)

-- a place and a length fit in eight bytes each
abbrev pub ArePlaces : List (ℕ × ℕ) → Type 0
ArePlaces [] = Unit {0}
ArePlaces (table ∷ tables) = (table.0 < 2 ^ 64) × (table.1 < 2 ^ 64) × ArePlaces tables

-- its numbers fit, and it has no more tables than flushed entries
pub record IsEdit (edit : Edit) : Type 0 where
  pub front : IsFront edit.place edit.flushed (length edit.tables)
  pub count : length edit.tables ≤ edit.flushed
  pub places : ArePlaces edit.tables

-- the bytes are the edit's
pub record IsSpelling (bytes : List ℕ) (edit : Edit) : Type 0 where
  pub is : IsEdit edit
  pub spelling : bytes ≡ edit_bytes edit

-- the bytes are no edit: fewer or more than one has, or it has more tables than flushed entries
abbrev pub IsNoEdit : List ℕ → Type 0
IsNoEdit bytes = (edit : Edit) → IsSpelling bytes edit → ⊥
