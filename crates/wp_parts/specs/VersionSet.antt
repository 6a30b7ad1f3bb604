-- The value behind the tables turn: the tables of the store on their two devices.
use Rattle.std.specs.Prelude.{◌≡◌, ◌⊎◌, ℕ, suc, ◌≤◌, Bool, true, false, List, [], ◌∷◌, ◌++◌, length, min, Option, Some, None}
use Rattle.std.specs.List.{list_all}
use Rattle.wp_model.specs.declared.segment.Segment.{Segment}
use Rattle.wp_model.specs.declared.version.Version.{Version}
use Rattle.wp_model.specs.Flushed.{InstalledEdit}
use Rattle.wp_outside.specs.Disk.{images}
use Rattle.wp_outside.specs.Faults.{Rose}
use Rattle.wp_gatelog.specs.Durability.{LosesNoRecord}
use Rattle.wp_manifest.specs.Edit.{Edit}
use Rattle.wp_manifest.specs.Spelling.{MAGIC, IsManifestOf, last_edit}
use Rattle.wp_merge.specs.Merge.{joined, sorted_of}
use Rattle.wp_contents.specs.Opens.{installed_of}
use Rattle.wp_table.specs.File.{HasTables}
use Rattle.wp_table.specs.Table.{is_flushed}
use Rattle.wp_tableset.specs.Changes.{Asked}
use Rattle.wp_tableset.specs.Device.{KeepsFronts}
use Rattle.wp_tableset.specs.Set.{TableSetState, StoresTables}
use Rattle.wp_tableset.specs.declared.gone.Gone.{Gone}
use Rattle.wp_tableset.specs.declared.gone.Gone.TheVariants.{Frozen, Tables}
use Rattle.wp_core.specs.States.{Installed}
use Rattle.wp_parts.specs.declared.edits.FailedInstall.{FailedInstall}

-- the state of the machine that it is, the set of tables now with the versions of each, and the set as it was opened
pub record VersionSetState : Type 0 where
  pub state : Installed
  pub set : TableSetState
  pub parts : List (List Version)
  pub first : TableSetState

-- ---- an edit that is asked for

-- with the new table, if there is one: the newest, where the frozen parts go; alone, where the tables do
abbrev pub with_new : Gone → List Version → InstalledEdit → InstalledEdit
with_new Frozen [] last = last
with_new Frozen (v ∷ versions) last = record last { versions = sorted_of (v ∷ versions ++ last.versions); tables = suc last.tables }
with_new Tables versions last = record last { versions = versions; tables = min (length versions) 1 }

-- ... and the log is in this segment
abbrev pub asked_for : Asked → Segment → InstalledEdit → InstalledEdit
asked_for asked segment last = record (with_new asked.gone asked.versions last) { segment = segment; flushed = asked.flushed }

-- only where the manifest's device failed can its edit be found later
abbrev pub failed_edit : (closed : Bool) → Option FailedInstall → InstalledEdit → Option InstalledEdit
failed_edit true (Some f) last = Some (asked_for (record { gone = f.gone; versions = joined f.tables.items; flushed = f.flushed }) f.segment last)
failed_edit closed other last = None

-- the manifest does not say the base
abbrev pub edits_state : TableSetState → TableSetState → ℕ → List (List Version) → Option FailedInstall → VersionSetState
edits_state set first base parts failed = record {
  state = record { last = installed_of base set.manifest.edit parts; failed = failed_edit set.manifest.log.closed failed (installed_of base set.manifest.edit parts); halted = set.halted };
  set = set;
  parts = parts;
  first = first;
}

-- ---- what its devices have

-- the bytes are a manifest whose last edit is this one, with this base, and a crash leaves its tables
pub record IsNamed (s : VersionSetState) (image : List ℕ) (edit : InstalledEdit) : Type 0 where
  pub edits : List Edit
  pub spelled : IsManifestOf s.set.manifest.log.id edits image
  pub base : ℕ
  pub parts : List (List Version)
  pub is : edit ≡ installed_of base (last_edit edits) parts
  pub there : (tables : List ℕ) → images s.set.moments tables → HasTables s.set.manifest.log.id (last_edit edits).flushed tables (last_edit edits).tables parts

-- the bytes have the tables of this edit, whole
pub record HasTablesOf (s : VersionSetState) (image : List ℕ) (installed : InstalledEdit) : Type 0 where
  pub edit : Edit
  pub base : ℕ
  pub parts : List (List Version)
  pub is : installed ≡ installed_of base edit parts
  pub there : HasTables s.set.manifest.log.id edit.flushed image edit.tables parts

-- ---- what is so of it

-- The set stores its edits, and the tables of the last one; once an install has failed, those of its edit too. No version of the last one's tables has a number above the flushed one. The set has the
-- id that it was opened with. Since then a device failed just where it is halted, and what was for good then is so still.
pub record IsEdits (s : VersionSetState) : Type 0 where
  pub edits : List Edit
  pub next : Edit
  pub next_base : ℕ
  pub next_parts : List (List Version)
  pub stores : StoresTables s.set edits next s.parts next_parts
  pub flushed : list_all (is_flushed s.state.last.flushed) s.state.last.versions ≡ true
  pub none_failed : s.set.manifest.log.closed ≡ false → s.state.failed ≡ None
  pub failed : s.set.manifest.log.closed ≡ true → s.state.failed ≡ Some (installed_of next_base next next_parts)
  pub running : s.state.halted ≡ false → s.set.manifest.log.closed ≡ false
  pub id : s.set.manifest.log.id ≡ s.first.manifest.log.id
  pub later : s.first.faults ≤ s.set.faults
  pub manifest_later : s.first.manifest.log.faults ≤ s.set.manifest.log.faults
  pub cause : s.state.halted ≡ true → Rose s.first.manifest.log.faults s.set.manifest.log.faults ⊎ Rose s.first.faults s.set.faults
  pub unfailed : s.state.halted ≡ false → (s.set.manifest.log.faults ≡ s.first.manifest.log.faults) × (s.set.faults ≡ s.first.faults)
  pub fronts : KeepsFronts s.first.moments s.set.moments
  pub durable : LosesNoRecord MAGIC s.first.manifest.log.moments s.set.manifest.log.moments
