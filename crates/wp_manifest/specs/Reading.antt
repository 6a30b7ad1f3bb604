-- What records are as edits.
use Rattle.std.specs.Prelude.{◌≡◌, ℕ, ◌+◌, ◌*◌, ◌^◌, ◌≤◌, ◌<◌, List, ◌++◌, length, take, slice_get, Option, Some, None}
use Rattle.std.specs.Int.{w64, to_be_bytes}
use Rattle.wp_manifest.specs.Edit.{Edit, front_bytes, place_bytes, IsFront, IsSpelling, IsNoEdit}
use Rattle.wp_manifest.specs.declared.read.Front.{Front}
use Rattle.wp_manifest.specs.Spelling.{AreEdits, last_edit}
use Rattle.wp_manifest.specs.declared.error.ManifestError.{ManifestError}
use Rattle.wp_manifest.specs.declared.error.ManifestError.TheVariants.{Memory, BadEdit}

-- the numbers behind the mark were taken, of which this is the rest; or fewer bytes were there
abbrev pub MarkedRead : List ℕ → List ℕ → Option Front → Type 0
MarkedRead old new (Some front) = (place : ℕ) × (front.place ≡ Some place) × (old ≡ to_be_bytes w64 front.flushed ++ (to_be_bytes w64 place ++ (to_be_bytes w64 front.count ++ new))) × IsFront (Some place) front.flushed front.count
MarkedRead old new None = length old < 24

-- the numbers at the front of an edit were taken, of which this is the rest; or the bytes are none
abbrev pub FrontRead : List ℕ → List ℕ → Option Front → Type 0
FrontRead old new (Some front) = (old ≡ front_bytes front.place front.flushed front.count ++ new) × IsFront front.place front.flushed front.count
FrontRead old new None = IsNoEdit old

-- ... and they are an edit's, with as many bytes behind them as it has tables
abbrev pub CountsRead : List ℕ → List ℕ → Option Front → Type 0
CountsRead old new (Some front) = FrontRead old new (Some front) × (front.count ≤ front.flushed) × (length new ≡ front.count * 16)
CountsRead old new None = IsNoEdit old

-- a table was taken, of which this is the rest
abbrev pub IsTableRead : List ℕ → List ℕ → Option (ℕ × ℕ) → Type 0
IsTableRead old new (Some table) = (old ≡ place_bytes table ++ new) × (length old ≡ length new + 16) × (table.0 < 2 ^ 64) × (table.1 < 2 ^ 64)
IsTableRead old new None = ⊥

-- the edit that the bytes are, or none
abbrev pub EditRead : List ℕ → Option Edit → Type 0
EditRead bytes (Some edit) = IsSpelling bytes edit
EditRead bytes None = IsNoEdit bytes

-- the records are edits, of which this is the last
abbrev pub IsLastOf : List (List ℕ) → Edit → Type 0
IsLastOf records edit = (edits : List Edit) × AreEdits records edits × (edit ≡ last_edit edits)

-- the records before this one are edits, and it is none
pub record IsBadAmong (records : List (List ℕ)) (index : ℕ) : Type 0 where
  pub edits : List Edit
  pub bytes : List ℕ
  pub before : AreEdits (take index records) edits
  pub there : slice_get records index ≡ Some bytes
  pub wrong : IsNoEdit bytes

-- why the records are not all edits; of memory it says nothing
abbrev pub IsEditCause : List (List ℕ) → ManifestError → Type 0
IsEditCause records Memory = Unit {0}
IsEditCause records (BadEdit index) = IsBadAmong records index
IsEditCause records other = ⊥
