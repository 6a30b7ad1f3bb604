-- What is left of the devices to which a copy was written.
use Rattle.std.specs.Prelude.{◌≡◌, ℕ, List, [], ◌∷◌, Option, None, Some}
use Rattle.wp_outside.specs.Disk.{Moment, images}
use Rattle.wp_outside.specs.Faults.{Rose}
use Rattle.wp_table.specs.Walk.{BuiltTable}
use Rattle.wp_manifest.specs.Spelling as manifest
use Rattle.wp_wal.specs.Segment.{cut_behind}
use Rattle.wp_wal.specs.Spelling.{IsLogAt}
use Rattle.wp_contents.specs.Devices.{DevicesLeft}
use Rattle.wp_checkpoint.specs.Image.{edit_of}
use Rattle.wp_checkpoint.specs.Target.{StayBehind, faults_of}
use Rattle.wp_checkpoint.specs.declared.error.CopyError.{CopyError}
use Rattle.wp_checkpoint.specs.declared.error.CopyError.TheVariants.{Memory, CopyHeld, CopyFault}
use Rattle.wp_checkpoint.specs.declared.image.Image.{Image}

-- a crash leaves the table's bytes and nothing else; without a table nothing was written
abbrev pub LeavesTable : Option BuiltTable → (old new : List Moment) → Type 0
LeavesTable None old new = new ≡ old
LeavesTable (Some built) old new = (bytes : List ℕ) → images new bytes → bytes ≡ built.bytes

-- a crash leaves the bytes of the image on each device
pub record HasImage (id at : ℕ) (image : Image) (old new : DevicesLeft) : Type 0 where
  pub tables : LeavesTable image.table old.tables new.tables
  pub log : (bytes : List ℕ) → images new.log bytes → IsLogAt id 0 (cut_behind image.log.base) bytes
  pub manifest : (bytes : List ℕ) → images new.manifest bytes → manifest.IsManifestOf id (edit_of at image.table ∷ []) bytes

-- that device failed, and those that are written behind it are as they were
abbrev pub FailsToWrite : (old new : DevicesLeft) → CopyError → Type 0
FailsToWrite old new Memory = ⊥
FailsToWrite old new (CopyHeld d) = ⊥
FailsToWrite old new (CopyFault d) = Rose (faults_of d old) (faults_of d new) × StayBehind d old new
