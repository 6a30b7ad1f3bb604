-- What an opening hands out.
use Rattle.std.specs.Prelude.{◌≡◌, ℕ, ◌<◌, ◌^◌, List, []}
use Rattle.std.specs.List.{AllByRecursion}
use Rattle.wp_model.specs.declared.entry.Entry.{Entry}
use Rattle.wp_model.specs.Flushed.{later_versions}
use Rattle.wp_model.specs.Legal.{IsLegal}
use Rattle.wp_outside.specs.Disk.{Moment, IfKnown, added, after_sync, images}
use Rattle.wp_cuts.specs.Cut.{Cut, cut_at}
use Rattle.wp_gatelog.specs.Opening.{KeepsLog}
use Rattle.wp_wal.specs.Opening.{IsOpenedLog, KeepsWal}
use Rattle.wp_wal.specs.Wal.{WalState}
use Rattle.wp_manifest.specs.Edit.{Edit, place_of}
use Rattle.wp_manifest.specs.Manifest.{ManifestState, Opened}
use Rattle.wp_manifest.specs.Spelling.{MAGIC, head_stamp}
use Rattle.wp_table.specs.File.{HasTables}
use Rattle.wp_table.specs.Table.{IsTable}
use Rattle.wp_merge.specs.Merge.{sorted_of}
use Rattle.wp_store.specs.Store.{StoreParts}
use Rattle.wp_contents.specs.Devices.{DevicesLeft}
use Rattle.wp_contents.specs.Opens.{AreCovering, OpensTo, AllKnown, history_over, installed_of}

-- ---- the log and the manifest

-- The manifest was opened, and the log at the place that its last edit names, which spells the cut. Both have one id. Where no manifest was
-- made, it was made with the log's.
pub record LogsOpened (asked : ℕ) (old : DevicesLeft) (wal : WalState) (c : Cut) (edits : ManifestState) : Type 0 where
  pub log : IsOpenedLog asked (place_of edits.edit) old.log wal c
  pub manifest : Opened wal.id old.manifest edits
  pub one_id : edits.log.id ≡ wal.id
  pub log_kept : KeepsWal (place_of edits.edit) asked old.log wal.moments old.log_faults wal.faults
  pub manifest_kept : KeepsLog MAGIC (head_stamp wal.id) old.manifest edits.log.moments old.manifest_faults edits.log.faults
  pub unfailed : (wal.faults ≡ old.log_faults) × (edits.log.faults ≡ old.manifest_faults)

-- ---- the whole

-- The history stands for the cut and the store's tables, and is legal. The store has in memory the versions of the entries after the
-- edit's flushed number, and nothing frozen. With these its tables cover the history.
pub record IsStoreOf (c : Cut) (history : List Entry) (edit : Edit) (store : StoreParts) : Type 0 where
  pub full : history ≡ history_over c store.tables
  pub legal : IsLegal history
  pub covering : AreCovering c edit store.tables
  pub memory : store.memory ≡ sorted_of (later_versions history edit.flushed)
  pub frozen : store.frozen ≡ []

-- what the log has of the history
abbrev pub stored_cut : WalState → List Entry → Cut
stored_cut wal history = cut_at history wal.segment.base

-- The parts of a store that was opened under this id, from devices with these moments before: a log that stores the history from its base
-- on, the manifest as it was, whose last edit says where the log is, and the tables of that edit, which no crash can take from here on.
pub record PartsOpened (asked : ℕ) (log manifest tables : List Moment) (wal : WalState) (history : List Entry) (edits : ManifestState) (tables_now : List Moment) (parts : StoreParts) : Type 0 where
  pub id_fits : wal.id < 2 ^ 32
  pub opened : IsOpenedLog asked (place_of edits.edit) log wal (stored_cut wal history)
  pub installed : Opened wal.id manifest edits
  pub one_id : edits.log.id ≡ wal.id
  pub store : IsStoreOf (stored_cut wal history) history edits.edit parts
  pub synced : tables_now ≡ added after_sync tables
  pub there : IfKnown tables (λ m. HasTables wal.id edits.edit.flushed m.reads edits.edit.tables parts.tables)
  pub are : AllByRecursion (IsTable wal.id edits.edit.flushed) parts.tables
  pub kept : (image : List ℕ) → images tables_now image → HasTables wal.id edits.edit.flushed image edits.edit.tables parts.tables

-- What the parts of a store have of the devices that it was opened from.
pub record ArePartsOf (asked : ℕ) (old : DevicesLeft) (wal : WalState) (history : List Entry) (edits : ManifestState) (tables_faults : ℕ) (parts : StoreParts) : Type 0 where
  -- what the devices read opens to the history that is handed out, and to the edit that names the store's tables
  pub opens : AllKnown old.log old.manifest old.tables (OpensTo wal.id history (installed_of wal.segment.base edits.edit parts.tables))
  -- what each of the two logs keeps of its device
  pub log : KeepsWal wal.segment.place asked old.log wal.moments old.log_faults wal.faults
  pub manifest : KeepsLog MAGIC (head_stamp wal.id) old.manifest edits.log.moments old.manifest_faults edits.log.faults
  -- none of the three failed
  pub unfailed : (wal.faults ≡ old.log_faults) × (edits.log.faults ≡ old.manifest_faults) × (tables_faults ≡ old.tables_faults)
