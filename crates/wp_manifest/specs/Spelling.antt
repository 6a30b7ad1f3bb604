-- The manifest: a log of edits.
use Rattle.std.specs.Prelude.{◌≡◌, ◌⊎◌, ℕ, List, [], ◌∷◌, ◌++◌, map, codes}
use Rattle.wp_outside.specs.Disk.{Each}
use Rattle.wp_fields.specs.declared.format.Format.{Format}
use Rattle.wp_fields.specs.declared.format.Format.TheVariants.{One}
use Rattle.wp_gatelog.specs.Spelling.{Stamp, stamped, Spells}
use Rattle.wp_manifest.specs.Edit.{Edit, IsEdit, no_edit, edit_bytes}

-- the first four bytes after the head's gate
abbrev pub MAGIC : List ℕ
MAGIC = codes "WPMF"

-- a manifest is of the first version
abbrev pub VERSION : Format
VERSION = One

-- what the head of one with this id says
abbrev pub head_stamp : ℕ → Stamp
head_stamp id = stamped VERSION id

-- the records are these edits, in order
pub record AreEdits (records : List (List ℕ)) (edits : List Edit) : Type 0 where
  pub spelled : records ≡ map edit_bytes edits
  pub are : Each IsEdit edits

-- the edit that counts
abbrev pub last_edit : List Edit → Edit
last_edit [] = no_edit
last_edit (edit ∷ []) = edit
last_edit (edit ∷ second ∷ others) = last_edit (second ∷ others)

-- the bytes spell these edits under the id
abbrev pub IsManifestOf : ℕ → List Edit → List ℕ → Type 0
IsManifestOf id edits bytes = (records : List (List ℕ)) × Spells bytes MAGIC (head_stamp id) records × AreEdits records edits

-- the bytes spell these edits, or them and the next one
abbrev pub IsManifestOrNext : ℕ → List Edit → Edit → List ℕ → Type 0
IsManifestOrNext id edits next bytes = IsManifestOf id edits bytes ⊎ IsManifestOf id (edits ++ next ∷ []) bytes
