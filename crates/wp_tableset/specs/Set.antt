-- The tables of a store on its two devices, and what they store.
use Rattle.std.specs.Prelude.{◌≡◌, ℕ, Bool, false, List}
use Rattle.wp_model.specs.declared.version.Version.{Version}
use Rattle.wp_outside.specs.Disk.{Moment, IfKnown, synced}
use Rattle.wp_gatelog.specs.Moments.{Leaves}
use Rattle.wp_manifest.specs.Edit.{Edit}
use Rattle.wp_manifest.specs.Manifest.{ManifestState, StoresEdits}
use Rattle.wp_table.specs.File.{HasTables}

pub record TableSetState : Type 0 where
  pub manifest : ManifestState
  pub moments : List Moment  -- of the tables' device
  pub faults : ℕ  -- of the tables' device
  pub halted : Bool  -- a device has failed

-- each image of the moment has the edit's tables, of these versions, in the store with that id
abbrev pub LeavesTables : ℕ → Edit → List (List Version) → Moment → Type 0
LeavesTables id edit parts = Leaves (λ image. HasTables id edit.flushed image edit.tables parts)

-- all of the device is there for good, and the edit's tables are in it
pub record RestsWith (id : ℕ) (edit : Edit) (parts : List (List Version)) (m : Moment) : Type 0 where
  pub bytes : List ℕ
  pub on_disk : m ≡ synced bytes
  pub tables : HasTables id edit.flushed bytes edit.tables parts

-- The set stores the edits, and the last one's tables: of these versions, the newest first. Once an install has failed,
-- a crash leaves the edits, or them and the next one, and the tables of the next one are there too.
pub record StoresTables (set : TableSetState) (edits : List Edit) (next : Edit) (parts next_parts : List (List Version)) : Type 0 where
  pub manifest : StoresEdits set.manifest edits next
  pub rests : set.halted ≡ false → IfKnown set.moments (RestsWith set.manifest.log.id set.manifest.edit parts)
  pub left : IfKnown set.moments (LeavesTables set.manifest.log.id set.manifest.edit parts)
  pub left_next : IfKnown set.moments (LeavesTables set.manifest.log.id next next_parts)
