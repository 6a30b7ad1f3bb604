-- What an edit makes of the tables of a store.
use Rattle.std.specs.Prelude.{◌≡◌, ◌≤◌, ℕ, true, false, List, [], ◌∷◌, ◌++◌, length, Option, Some, None, Result, OnOk, OnErr}
use Rattle.wp_model.specs.declared.version.Version.{Version}
use Rattle.wp_outside.specs.Disk.{Moment, Passes, added, after_write, after_sync}
use Rattle.wp_outside.specs.Faults.{Rose}
use Rattle.wp_gatelog.specs.Durability.{LosesNoRecord}
use Rattle.wp_gatelog.specs.Moments.{Leaves}
use Rattle.wp_manifest.specs.Edit.{Edit, no_edit}
use Rattle.wp_manifest.specs.Manifest.{StoresEdits}
use Rattle.wp_manifest.specs.Spelling.{MAGIC, IsManifestOrNext}
use Rattle.wp_table.specs.Table.{written_bytes}
use Rattle.wp_tableset.specs.Device.{IsEnd, KeepsFronts}
use Rattle.wp_tableset.specs.Set.{TableSetState, LeavesTables, StoresTables}
use Rattle.wp_tableset.specs.declared.gone.Gone.{Gone}
use Rattle.wp_tableset.specs.declared.gone.Gone.TheVariants.{Frozen, Tables}

-- ---- the next edit

-- What is asked of an edit: these versions are in one table, if there are any, in place of what goes; and the entries up to `flushed`
-- are in tables.
pub record Asked : Type 0 where
  pub gone : Gone
  pub versions : List Version
  pub flushed : ℕ

-- a table of the versions at that place, in the store with that id
abbrev pub placed : ℕ → List Version → ℕ → ℕ × ℕ
placed id versions place = (place, length (written_bytes id versions))

-- the new table at that place, or none where there is no version
abbrev pub new_places : ℕ → List Version → ℕ → List (ℕ × ℕ)
new_places id [] place = []
new_places id (v ∷ versions) place = placed id (v ∷ versions) place ∷ []

-- the versions as the one new table, or none
abbrev pub one_part : List Version → Option (List Version)
one_part [] = None
one_part (v ∷ versions) = Some (v ∷ versions)

abbrev pub new_parts : List Version → List (List Version)
new_parts [] = []
new_parts (v ∷ versions) = (v ∷ versions) ∷ []

-- of the old tables those that stay
abbrev pub staying : {X : Type 0} → Gone → List X → List X
staying Frozen tables = tables
staying Tables tables = []

-- what the tables have then, the newest first
abbrev pub parts_after : Asked → List (List Version) → List (List Version)
parts_after asked parts = new_parts asked.versions ++ staying asked.gone parts

-- the edit that is asked for, by which the log begins at that place of its device, and the new table is at that place of the tables'
abbrev pub edit_for : TableSetState → Asked → (log place : ℕ) → Edit
edit_for old asked log place =
    record { flushed = asked.flushed; place = Some log; tables = new_places old.manifest.log.id asked.versions place ++ staying asked.gone old.manifest.edit.tables }

-- ---- its table

-- The newest of these tables, if there is one, begins where the device's bytes ended. It was written there at once, and
-- synced, and the device was called for nothing else that changes it.
abbrev pub NewestIsWritten : (old new : List Moment) → List (ℕ × ℕ) → Type 0
NewestIsWritten old new [] = new ≡ old
NewestIsWritten old new (table ∷ tables) =
    IsEnd old table.0 × ((bytes : List ℕ) × (length bytes ≡ table.1) × (new ≡ added after_sync (added (after_write table.0 bytes) old)))

-- It was not written: the tables' device failed, and the manifest was not called.
pub record NotWritten (old new : TableSetState) : Type 0 where
  pub halted : new.halted ≡ true
  pub rose : Rose old.faults new.faults
  pub manifest : new.manifest ≡ old.manifest
  pub stores : (edits : List Edit) (parts : List (List Version)) → StoresTables old edits no_edit parts []
      → StoresTables new edits no_edit parts []

-- ---- its install

-- it is the last one
pub record IsInstalled (old new : TableSetState) (edit : Edit) : Type 0 where
  pub running : new.halted ≡ false
  pub unfailed : new.manifest.log.faults ≡ old.manifest.log.faults
  pub last : new.manifest.edit ≡ edit
  pub stores : (edits : List Edit) → StoresEdits old.manifest edits no_edit → StoresEdits new.manifest (edits ++ edit ∷ []) no_edit

-- the manifest's device failed: the old edit is the last one, and this one may be in the manifest
pub record NotInstalled (old new : TableSetState) (edit : Edit) : Type 0 where
  pub halted : new.halted ≡ true
  pub rose : Rose old.manifest.log.faults new.manifest.log.faults
  pub last : new.manifest.edit ≡ old.manifest.edit
  pub stores : (edits : List Edit) → StoresEdits old.manifest edits no_edit → StoresEdits new.manifest edits edit
  pub closed : new.manifest.log.closed ≡ true

-- The manifest alone is called. At each moment a crash leaves the edits before, or those and this one, whole.
pub record InstallsEdit {T E : Type 0} (old new : TableSetState) (edit : Edit) (result : Result T E) : Type 0 where
  pub moments : new.moments ≡ old.moments
  pub faults : new.faults ≡ old.faults
  pub passed : (edits : List Edit) → StoresEdits old.manifest edits no_edit → old.manifest.log.closed ≡ false
      → Passes (Leaves (IsManifestOrNext old.manifest.log.id edits edit)) old.manifest.log.moments new.manifest.log.moments
  pub installed : OnOk result (IsInstalled old new edit)
  pub refused : OnErr result (NotInstalled old new edit)

-- ---- what stays

-- At each moment a crash leaves the tables of the old edit; what was for good before is so afterwards; and no count of
-- faults falls.
pub record LosesNoTable (old new : TableSetState) : Type 0 where
  pub tables : (edits : List Edit) (next : Edit) (parts next_parts : List (List Version)) → StoresTables old edits next parts next_parts
      → Passes (LeavesTables old.manifest.log.id old.manifest.edit parts) old.moments new.moments
  pub fronts : (edits : List Edit) (next : Edit) (parts next_parts : List (List Version)) → StoresTables old edits next parts next_parts
      → KeepsFronts old.moments new.moments
  pub durable : (edits : List Edit) (next : Edit) → StoresEdits old.manifest edits next
      → LosesNoRecord MAGIC old.manifest.log.moments new.manifest.log.moments
  pub id : new.manifest.log.id ≡ old.manifest.log.id
  pub later : old.faults ≤ new.faults
  pub manifest_later : old.manifest.log.faults ≤ new.manifest.log.faults
