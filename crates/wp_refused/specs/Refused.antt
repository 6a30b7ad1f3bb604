-- Why a store is not opened, and what that leaves of its devices.
use Rattle.std.specs.Prelude.{◌≡◌, ◌≢◌, ◌⊎◌, ℕ, ◌<◌, ◌≤◌, ◌^◌, List, []}
use Rattle.wp_model.specs.declared.entry.Entry.{Entry}
use Rattle.wp_outside.specs.declared.disk.Device.TheVariants as device
use Rattle.wp_outside.specs.Disk.{Moment, IfKnown, Each, added, after_sync}
use Rattle.wp_outside.specs.Faults.{Rose}
use Rattle.wp_cuts.specs.Cut.{Cut}
use Rattle.wp_gatelog.specs.Durability.{LosesNoRecord}
use Rattle.wp_gatelog.specs.Left.{IsLeftAtRest}
use Rattle.wp_gatelog.specs.Opening.{SurvivesThrough}
use Rattle.wp_gatelog.specs.Spelling.{IsUnmade}
use Rattle.wp_wal.specs.declared.error.WalError.{WalError}
use Rattle.wp_wal.specs.declared.error.WalError.TheVariants as wal_error
use Rattle.wp_wal.specs.Opening.{IsLogCause, KeepsWal, LeavesLog}
use Rattle.wp_wal.specs.Reading.{IsJudged}
use Rattle.wp_wal.specs.Spelling.{IsLogAt}
use Rattle.wp_wal.specs.Wal.{LeavesCut}
use Rattle.wp_manifest.specs.declared.error.ManifestError.{ManifestError}
use Rattle.wp_manifest.specs.declared.error.ManifestError.TheVariants as manifest_error
use Rattle.wp_manifest.specs.Edit.{Edit, IsEdit, place_of}
use Rattle.wp_manifest.specs.Opening.{IsManifestCause, LeavesEdits}
use Rattle.wp_manifest.specs.Spelling.{MAGIC, IsManifestOf, head_stamp, last_edit}
use Rattle.wp_table.specs.declared.error.TableError.{TableError}
use Rattle.wp_table.specs.declared.error.TableError.TheVariants as table
use Rattle.wp_refused.specs.declared.bad.Bad.TheVariants as bad
use Rattle.wp_refused.specs.declared.error.OpenError.{OpenError}
use Rattle.wp_refused.specs.declared.error.OpenError.TheVariants as open_error
use Rattle.wp_refused.specs.Damage.{Finds, IsOther, IsOwnFault, IsWithin, end_of}
use Rattle.wp_contents.specs.Devices.{DevicesLeft}
use Rattle.wp_contents.specs.Opens.{Opens, AllKnown, HasAsked}
use Rattle.wp_refused.specs.Tables.{IsStoreCause, LeavesSynced}

-- ---- what the errors of the parts mean

-- what an error of the log means for the opening
abbrev pub IsLogReason : WalError → OpenError → Type 0
IsLogReason wal_error.Memory why = why ≡ open_error.Memory
IsLogReason wal_error.DiskFault why = why ≡ open_error.OpenFault device.Log
IsLogReason wal_error.BadHead why = why ≡ open_error.Contents (bad.BadHead device.Log)
IsLogReason (wal_error.BadRecord index fault) why = why ≡ open_error.Contents (bad.BadRecord index fault)
IsLogReason (wal_error.Illegal number) why = why ≡ open_error.Contents (bad.Illegal number)

-- what an error of the manifest means for the opening
abbrev pub IsManifestReason : ManifestError → OpenError → Type 0
IsManifestReason manifest_error.Memory why = why ≡ open_error.Memory
IsManifestReason manifest_error.DiskFault why = why ≡ open_error.OpenFault device.Manifest
IsManifestReason manifest_error.BadHead why = why ≡ open_error.Contents (bad.BadHead device.Manifest)
IsManifestReason (manifest_error.BadEdit index) why = why ≡ open_error.Contents (bad.BadEdit index)

-- what an error of the table at that place means for the opening of a store with that id
abbrev pub IsTableReason : ℕ → ℕ → TableError → OpenError → Type 0
IsTableReason id place table.Memory why = why ≡ open_error.Memory
IsTableReason id place (table.Stranger found) why = why ≡ open_error.Contents (bad.Stranger id found)
IsTableReason id place other why = why ≡ open_error.Contents (bad.BadTable place other)

-- Once the log has all entries that were flushed, and its base is, in the store with that id: memory ran out, the tables' device failed,
-- a table is another store's or wrong, an undo is wrong, or the tables do not cover the history.
abbrev pub IsOfTables : ℕ → OpenError → Type 0
IsOfTables id open_error.Memory = Unit {0}
IsOfTables id (open_error.OpenFault device.Tables) = Unit {0}
IsOfTables id (open_error.Contents (bad.Stranger log found)) = log ≡ id
IsOfTables id (open_error.Contents (bad.BadTable place why)) = IsOwnFault why
IsOfTables id (open_error.Contents (bad.Illegal number)) = Unit {0}
IsOfTables id (open_error.Contents bad.Uncovered) = Unit {0}
IsOfTables id other = ⊥

-- ---- why

-- This cut was read of the log at that place, under this id, and is right as far as the log tells. Where the device is known, it has just
-- that.
pub record WasRead (asked id place : ℕ) (c : Cut) (log : List Moment) : Type 0 where
  pub id_fits : id < 2 ^ 32
  pub judged : IsJudged c
  pub known : IfKnown log (λ l. Finds asked id place c l.reads)

-- these edits were read of the manifest; where the device is known, it has just these
pub record WereRead (found : ℕ) (list : List Edit) (manifest : List Moment) : Type 0 where
  pub are : Each IsEdit list
  pub known : IfKnown manifest (λ m. IsManifestOf found list m.reads)

-- Why a store was not opened. The manifest was refused; or, after a manifest that is right, the log at the place that its last edit names;
-- or, after both, they have not one id; or what the last edit says is refused. Each speaks of what was read of the devices that it needs,
-- of their bytes where they are known, and of no later one. A manifest that was not made when it was asked for, and then has an edit that
-- names another place, is of a device that tells nothing.
pub data IsCause (asked : ℕ) (log_rose manifest_rose tables_rose : Type 0) (log manifest tables : List Moment) (why : OpenError) : Type 0 where
  of_manifest : (refusal : ManifestError) → IsManifestReason refusal why → IsManifestCause manifest_rose manifest refusal → IsCause asked log_rose manifest_rose tables_rose log manifest tables why
  of_log : (found : ℕ) (edits : List Edit) (refusal : WalError) → WereRead found edits manifest → IsLogReason refusal why → IsLogCause (place_of (last_edit edits)) log_rose log refusal → IsCause asked log_rose manifest_rose tables_rose log manifest tables why
  of_place : IfKnown manifest (λ m. ⊥) → why ≡ open_error.Contents (bad.BadHead device.Log) → IsCause asked log_rose manifest_rose tables_rose log manifest tables why
  of_ids : (id found : ℕ) (c : Cut) (edits : List Edit) → WereRead found edits manifest → WasRead asked id (place_of (last_edit edits)) c log → found ≢ id → IfKnown manifest (λ m. IsOther id found m.reads) → why ≡ open_error.Contents (bad.Stranger id found) → IsCause asked log_rose manifest_rose tables_rose log manifest tables why
  of_edit : (id : ℕ) (c : Cut) (edits : List Edit) → WereRead id edits manifest → WasRead asked id (place_of (last_edit edits)) c log → IsStoreCause id c (last_edit edits) tables_rose tables why → IsCause asked log_rose manifest_rose tables_rose log manifest tables why

-- the contents of the devices are not what it is about
abbrev pub IsOutside : OpenError → Type 0
IsOutside (open_error.Contents bad) = ⊥
IsOutside other = Unit {0}

-- ---- what is left

-- a log that was read at that place, and let go of: it is as it was, and synced
pub record IsLogSeen (id place : ℕ) (c : Cut) (old new : List Moment) : Type 0 where
  pub found : IfKnown old (λ m. IsLogAt id place c m.reads)
  pub left : new ≡ added after_sync old

-- a log that was read at that place, and whose device failed while it was repaired
pub record IsLogBroken (asked id place : ℕ) (c : Cut) (old new : DevicesLeft) : Type 0 where
  pub found : IfKnown old.log (λ m. IsLogAt id place c m.reads)
  pub kept : KeepsWal place asked old.log new.log old.log_faults new.log_faults

-- a log that was opened at that place, and let go of: a crash leaves its cut
pub record IsLogLeft (asked id place : ℕ) (c : Cut) (old new : DevicesLeft) : Type 0 where
  pub found : IfKnown old.log (λ m. IsLogAt id place c m.reads)
  pub left : IfKnown new.log (LeavesCut id place c)
  pub kept : KeepsWal place asked old.log new.log old.log_faults new.log_faults

-- a manifest that was opened, and let go of: it is at rest with the edits that it spelled under its id; one that is new has this id
pub record IsManifestLeft (id its : ℕ) (edits : List Edit) (old new : List Moment) : Type 0 where
  pub found : IfKnown old (λ m. IsManifestOf its edits m.reads)
  pub rests : IsLeftAtRest MAGIC old new
  pub survives : SurvivesThrough MAGIC (head_stamp id) old new

-- before the log is called a manifest that was made is opened so, and one that was not made is looked at, and is as it was
abbrev pub IsManifestSeen : ℕ → ℕ → List Edit → List Moment → List Moment → Type 0
IsManifestSeen id its edits old new =
    (IfKnown old (λ m. IsUnmade m.reads → ⊥) × IsManifestLeft id its edits old new)
    ⊎ ((edits ≡ []) × IfKnown old (λ m. IsUnmade m.reads) × (new ≡ old))

-- both of them
pub record AreLeft (asked id its place : ℕ) (c : Cut) (edits : List Edit) (old new : DevicesLeft) : Type 0 where
  pub log : IsLogLeft asked id place c old new
  pub manifest : IsManifestLeft id its edits old.manifest new.manifest

-- the base is ahead of what was flushed, or the log is behind it
abbrev pub IsApart : Cut → Edit → OpenError → Type 0
IsApart c edit why =
    ((edit.flushed < c.base) × (why ≡ open_error.Contents (bad.BaseAhead c.base edit.flushed)))
    ⊎ ((c.base ≤ edit.flushed) × (end_of c < edit.flushed) × (why ≡ open_error.Contents (bad.LogBehind edit.flushed (end_of c))))

-- By a manifest that tells nothing of itself: its last edit names another place than the log's, or it has another id.
abbrev pub IsElsewhere : ℕ → ℕ → ℕ → OpenError → Type 0
IsElsewhere id its place why = ((place ≢ 0) × (why ≡ open_error.Contents (bad.BadHead device.Log))) ⊎ ((its ≢ id) × (why ≡ open_error.Contents (bad.Stranger id its)))

-- How far a refused opening came, and what it left. The devices that it did not reach are the same: `same_log` and `same_tables` say so.
-- What a new log or a new manifest would be is said with it. Nothing of the log is written before it is read and judged, nor before its id is
-- compared with that of a manifest that was made.
pub data IsLeft (asked : ℕ) (same_log same_tables : Type 0) (old new : DevicesLeft) (why : OpenError) : Type 0 where
  at_manifest : (refusal : ManifestError) → IsManifestReason refusal why → LeavesEdits old.manifest new.manifest refusal → SurvivesThrough MAGIC (head_stamp asked) old.manifest new.manifest → same_log → same_tables → IsLeft asked same_log same_tables old new why
  at_log : (its : ℕ) (edits : List Edit) (refusal : WalError) → IsManifestSeen asked its edits old.manifest new.manifest → IsLogReason refusal why → LeavesLog old.log new.log refusal → same_tables → IsLeft asked same_log same_tables old new why
  at_ids : (id found : ℕ) (c : Cut) (edits : List Edit) → IsLogSeen id (place_of (last_edit edits)) c old.log new.log → IsManifestLeft asked found edits old.manifest new.manifest → found ≢ id → why ≡ open_error.Contents (bad.Stranger id found) → same_tables → IsLeft asked same_log same_tables old new why
  at_repair : (id : ℕ) (c : Cut) (edits : List Edit) → IsLogBroken asked id (place_of (last_edit edits)) c old new → IsManifestSeen asked id edits old.manifest new.manifest → why ≡ open_error.OpenFault device.Log → same_tables → IsLeft asked same_log same_tables old new why
  at_new_manifest : (id : ℕ) (c : Cut) (refusal : ManifestError) → IfKnown old.manifest (λ m. IsUnmade m.reads) → IsLogLeft asked id 0 c old new → IsManifestReason refusal why → LeavesEdits old.manifest new.manifest refusal → SurvivesThrough MAGIC (head_stamp id) old.manifest new.manifest → same_tables → IsLeft asked same_log same_tables old new why
  at_place : (id its : ℕ) (c : Cut) (edits : List Edit) → AreLeft asked id its 0 c edits old new → IfKnown old.manifest (λ m. ⊥) × IsElsewhere id its (place_of (last_edit edits)) why → same_tables → IsLeft asked same_log same_tables old new why
  at_edit : (id : ℕ) (c : Cut) (edits : List Edit) → AreLeft asked id id (place_of (last_edit edits)) c edits old new → IsApart c (last_edit edits) why → same_tables → IsLeft asked same_log same_tables old new why
  at_tables : (id : ℕ) (c : Cut) (edits : List Edit) → AreLeft asked id id (place_of (last_edit edits)) c edits old new → IsWithin c (last_edit edits) → IsOfTables id why → LeavesSynced same_tables old.tables new.tables why → IsLeft asked same_log same_tables old new why

-- ---- the whole

-- A store was not opened. There is a cause of that, and bytes that open to a history are none. The devices are left as they were,
-- or repaired, or made new without entries; the same is said of them as of a store's.
pub record IsRefusedFrom (asked : ℕ) (same_log same_tables : Type 0) (old new : DevicesLeft) (why : OpenError) : Type 0 where
  pub cause : IsCause asked (Rose old.log_faults new.log_faults) (Rose old.manifest_faults new.manifest_faults) (Rose old.tables_faults new.tables_faults) old.log old.manifest old.tables why
  pub only : AllKnown old.log old.manifest old.tables (λ log manifest tables. (found : ℕ) (history : List Entry) (opens : Opens found history log manifest tables) → HasAsked asked found opens.edits log → IsOutside why)
  pub left : IsLeft asked same_log same_tables old new why
  pub manifest_durable : LosesNoRecord MAGIC old.manifest new.manifest
  pub log_later : old.log_faults ≤ new.log_faults
  pub manifest_later : old.manifest_faults ≤ new.manifest_faults
  pub tables_later : old.tables_faults ≤ new.tables_faults
