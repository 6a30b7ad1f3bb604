-- What a store has that was opened from its devices.
use Rattle.std.specs.Prelude.{◌≡◌, ℕ, List, Some}
use Rattle.wp_model.specs.Flushed.{InstalledEdit}
use Rattle.wp_outside.specs.Disk.{Moment}
use Rattle.wp_wal.specs.Wal.{WalState}
use Rattle.wp_manifest.specs.Manifest.{ManifestState}
use Rattle.wp_store.specs.Store.{StoreParts}
use Rattle.wp_contents.specs.Opens.{installed_of}
use Rattle.wp_refused.specs.Parts.{PartsOpened, ArePartsOf}
use Rattle.wp_tableset.specs.Set.{TableSetState}
use Rattle.wp_rule.specs.Shows.{WasLast}
use Rattle.wp_opened.specs.Filled.{running_set}
use Rattle.wp_parts.specs.Parts.{content, log_first, set_first}
use Rattle.wp_parts.specs.Devices.{DevicesLeft}
use Rattle.wp_shared.specs.Seats.{SharedState}

-- the values behind its turns were this log, and this set, whose last edit was this one
pub record HasParts {D : Type 0} (wal : WalState) (set : TableSetState) (edit : InstalledEdit) (z : SharedState D) : Type 0 where
  pub log_is : log_first z.first ≡ Some wal
  pub set_is : set_first z.first ≡ Some set
  pub last_is : WasLast content z.first edit

-- The store has what the devices opened to, under this id where no log was made: the values behind its turns were its log, and
-- its tables, whose last edit was the manifest's. While it was opened no device failed, what was acknowledged stayed so, and a crash left
-- the log and the manifest as they were, or repaired.
pub record IsOpenedFrom {D : Type 0} (asked : ℕ) (old : DevicesLeft) (z : SharedState D) : Type 0 where
  pub wal : WalState
  pub edits : ManifestState
  pub tables : List Moment
  pub tables_faults : ℕ
  pub versions : StoreParts
  pub log_is : log_first z.first ≡ Some wal
  pub set_is : set_first z.first ≡ Some (running_set edits tables tables_faults)
  pub last_is : WasLast content z.first (installed_of wal.segment.base edits.edit versions.tables)
  pub parts : PartsOpened asked old.log old.manifest old.tables wal z.opened edits tables versions
  pub found : ArePartsOf asked old wal z.opened edits tables_faults versions
