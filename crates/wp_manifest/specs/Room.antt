-- An edit with the memory that its install takes.
use Rattle.std.specs.Prelude.{◌≡◌, ℕ, true, List, [], ◌∷◌, is_some}
use Rattle.wp_manifest.specs.Edit.{Edit, IsEdit, edit_bytes}

-- the frame's record is the edit's spelling, in the second form
pub record IsRoom (frame : List ℕ) (edit : Edit) : Type 0 where
  pub spelling : frame ≡ edit_bytes edit
  pub is : IsEdit edit
  pub second : is_some edit.place ≡ true

-- the first of the tables is at this place, if there is one
abbrev pub first_at : ℕ → List (ℕ × ℕ) → List (ℕ × ℕ)
first_at place [] = []
first_at place (table ∷ tables) = (place, table.1) ∷ tables

abbrev pub with_newest_at : ℕ → Edit → Edit
with_newest_at place edit = record edit { tables = first_at place edit.tables }
