-- What is written of a copy, put together in memory.
use Rattle.std.specs.Prelude.{◌≡◌, ℕ, ◌≤◌, true, List, [], ◌∷◌, length, map, Option, None, Some}
use Rattle.std.specs.List.{AllByRecursion, list_all}
use Rattle.wp_model.specs.declared.carried.Carried.{Carried}
use Rattle.wp_model.specs.declared.row.Row.{Row}
use Rattle.wp_model.specs.declared.version.Version.{Version}
use Rattle.wp_model.specs.Rows.{Pair, pair_of}
use Rattle.wp_fields.specs.declared.format.Format.TheVariants.{Two}
use Rattle.wp_entry.specs.Base.{IsBase, base_bytes}
use Rattle.wp_table.specs.Table.{SpellsTable, is_flushed}
use Rattle.wp_table.specs.Walk.{BuiltTable}
use Rattle.wp_gatelog.specs.Beside.{IsWholeLog}
use Rattle.wp_gatelog.specs.Spelling.{stamped}
use Rattle.wp_manifest.specs.Edit.{Edit, IsEdit, edit_bytes}
use Rattle.wp_manifest.specs.Spelling as manifest
use Rattle.wp_wal.specs.Segment.{NewSegmentState}
use Rattle.wp_wal.specs.Spelling as wal
use Rattle.wp_checkpoint.specs.Copy.{copied_base, copied_counts, copied_versions}
use Rattle.wp_checkpoint.specs.declared.image.Image.{Image}

-- all rows that were left were given, and the versions are made of them so
pub record AreMadeOf (left : List Pair) (Gives : Row → Type 0) (made : List Row → List Version) (versions : List Version) : Type 0 where
  pub rows : List Row
  pub all : map pair_of rows ≡ left
  pub each : AllByRecursion Gives rows
  pub are : versions ≡ made rows

-- ---- the tables' device

-- the table of the versions, in its one spelling, or none where there are none
abbrev pub IsTableOf : ℕ → List Version → Option BuiltTable → Type 0
IsTableOf id versions None = versions ≡ []
IsTableOf id versions (Some built) =
    (1 ≤ length versions) × ((flushed : ℕ) → list_all (is_flushed flushed) versions ≡ true → SpellsTable id flushed versions built.bytes)

-- where it is, and its length
abbrev pub places_of : Option BuiltTable → List (ℕ × ℕ)
places_of None = []
places_of (Some built) = (0, length built.bytes) ∷ []

abbrev pub edit_of : ℕ → Option BuiltTable → Edit
edit_of at table = record { flushed = at; place = Some 0; tables = places_of table }

-- ---- the log and the manifest

-- the log has the base alone
pub record IsNewLog (id at : ℕ) (carried : List Carried) (log : NewSegmentState) : Type 0 where
  pub based : log.base ≡ copied_base at carried
  pub is : IsBase log.base
  pub whole : IsWholeLog wal.MAGIC (stamped Two id) (base_bytes log.base ∷ []) log.bytes

-- the manifest has the edit alone that names the table
pub record IsNewManifest (id at : ℕ) (table : Option BuiltTable) (bytes : List ℕ) : Type 0 where
  pub is : IsEdit (edit_of at table)
  pub whole : IsWholeLog manifest.MAGIC (manifest.head_stamp id) (edit_bytes (edit_of at table) ∷ []) bytes

-- ---- together

pub record IsImageOf (id at : ℕ) (left : List Pair) (Gives : Row → Type 0) (carried : List Carried) (image : Image) : Type 0 where
  pub rows : List Row
  pub all : map pair_of rows ≡ left
  pub each : AllByRecursion Gives rows
  pub counted : image.copied ≡ copied_counts at rows carried
  pub table : IsTableOf id (copied_versions rows carried) image.table
  pub log : IsNewLog id at carried image.log
  pub manifest : IsNewManifest id at image.table image.manifest
