-- What is wrong with the bytes of a store's devices: the first fault, in the order of an opening.
use Rattle.std.specs.Prelude.{◌≡◌, ◌≢◌, ◌⊎◌, ℕ, ◌+◌, ◌<◌, ◌≤◌, ◌^◌, List, ◌∷◌, ◌++◌, length, take, drop}
use Rattle.wp_model.specs.declared.version.Version.{Version}
use Rattle.wp_outside.specs.declared.disk.Device.TheVariants as device
use Rattle.wp_cuts.specs.Cut.{Cut}
use Rattle.wp_history.specs.History.{RoomyHistory}
use Rattle.wp_history.specs.Outline.{IsFirstWrong, RestoreUpTo}
use Rattle.wp_gatelog.specs.Damage.{IsBadHead, IsBadHeadAt}
use Rattle.wp_gatelog.specs.Spelling.{IsUnmade, IsUnmadeAt}
use Rattle.wp_wal.specs.Opening.{IsBadLog, IsIllegalLog}
use Rattle.wp_wal.specs.Reading.{IsJudged}
use Rattle.wp_wal.specs.Spelling as wal
use Rattle.wp_manifest.specs.Edit.{Edit, place_of}
use Rattle.wp_manifest.specs.Opening.{IsBadEdit}
use Rattle.wp_manifest.specs.Spelling as edits
use Rattle.wp_manifest.specs.Spelling.{IsManifestOf, last_edit}
use Rattle.wp_table.specs.declared.error.TableError.{TableError}
use Rattle.wp_table.specs.declared.error.TableError.TheVariants as table
use Rattle.wp_table.specs.Faults.{IsTableFault}
use Rattle.wp_table.specs.File.{HasTables}
use Rattle.wp_table.specs.Table.{SpellsTable}
use Rattle.wp_refused.specs.declared.bad.Bad.{Bad}
use Rattle.wp_refused.specs.declared.bad.Bad.TheVariants as bad
use Rattle.wp_contents.specs.Opens.{AreCovering, history_over}

-- ---- the manifest

abbrev pub IsManifestDamaged : List ℕ → Bad → Type 0
IsManifestDamaged bytes (bad.BadHead device.Manifest) = IsBadHead edits.MAGIC edits.VERSION bytes
IsManifestDamaged bytes (bad.BadEdit index) = IsBadEdit index bytes
IsManifestDamaged bytes other = ⊥

-- ---- the log at the place that the manifest's last edit names

abbrev pub IsLogDamaged : ℕ → List ℕ → Bad → Type 0
IsLogDamaged place bytes (bad.BadHead device.Log) = IsBadHeadAt place wal.MAGIC wal.NEWEST bytes
IsLogDamaged place bytes (bad.BadRecord index why) = IsBadLog place bytes index why
IsLogDamaged place bytes (bad.Illegal number) = IsIllegalLog place bytes number
IsLogDamaged place bytes other = ⊥

-- The log at that place is right, as far as it tells by itself: it spells the cut under the id. One that was not made gets the id that is
-- asked for.
pub record Finds (asked id place : ℕ) (c : Cut) (bytes : List ℕ) : Type 0 where
  pub id_fits : id < 2 ^ 32
  pub spelled : wal.IsLogAt id place c bytes
  pub judged : IsJudged c
  pub unmade : IsUnmadeAt place bytes → id ≡ asked

-- the manifest was made, with another id than the log's
pub record IsOther (id found : ℕ) (manifest : List ℕ) : Type 0 where
  pub fits : found < 2 ^ 32
  pub other : found ≢ id
  pub made : IsUnmade manifest → ⊥

-- ---- the tables, after a log with that id, and that last edit

-- the bytes at a table's place: as many as the edit says, or as there are
abbrev pub bytes_at : List ℕ → ℕ × ℕ → List ℕ
bytes_at bytes placed = take placed.1 (drop placed.0 bytes)

-- these bytes, of a table of that size, have this fault first; or they are a whole table, and fewer than its size
abbrev pub HasTableFault : ℕ → ℕ → ℕ → List ℕ → TableError → Type 0
HasTableFault id flushed size read why =
    IsTableFault id flushed read why
    ⊎ ((versions : List Version) × SpellsTable id flushed versions read × (length read < size) × (why ≡ table.Short))

-- the bytes at the place have this fault
abbrev pub IsBadTable : ℕ → ℕ → List ℕ → ℕ × ℕ → TableError → Type 0
IsBadTable id flushed bytes placed why = HasTableFault id flushed placed.1 (bytes_at bytes placed) why

-- the tables before this one are right, and it has the fault
pub record IsFirstBadTable (id flushed : ℕ) (bytes : List ℕ) (tables : List (ℕ × ℕ)) (place : ℕ) (why : TableError) : Type 0 where
  pub before : List (ℕ × ℕ)
  pub size : ℕ
  pub after : List (ℕ × ℕ)
  pub parts : List (List Version)
  pub listed : tables ≡ before ++ (place, size) ∷ after
  pub right : HasTables id flushed bytes before parts
  pub wrong : IsBadTable id flushed bytes (place, size) why

-- a fault of the table itself: want of memory is none, and another store's table is named as a stranger
abbrev pub IsOwnFault : TableError → Type 0
IsOwnFault table.Memory = ⊥
IsOwnFault (table.Stranger found) = ⊥
IsOwnFault other = Unit {0}

-- The first table that is wrong is named: another store's as a stranger, any other by its place.
abbrev pub IsTableNamed : ℕ → ℕ → List ℕ → List (ℕ × ℕ) → Bad → Type 0
IsTableNamed id flushed bytes tables (bad.Stranger log found) = (log ≡ id) × (place : ℕ) × IsFirstBadTable id flushed bytes tables place (table.Stranger found)
IsTableNamed id flushed bytes tables (bad.BadTable place why) = IsOwnFault why × IsFirstBadTable id flushed bytes tables place why
IsTableNamed id flushed bytes tables other = ⊥

-- ---- the log and the tables together

-- the number of the last entry
abbrev pub end_of : Cut → ℕ
end_of c = c.base + length c.entries

-- the base is flushed, and the log has all entries that are
pub record IsWithin (c : Cut) (edit : Edit) : Type 0 where
  pub base : c.base ≤ edit.flushed
  pub flushed : edit.flushed ≤ end_of c

-- the list that stands for the cut and the tables, from the base on
abbrev pub standing : Cut → List (List Version) → RoomyHistory
standing c parts = record { base = c.base; entries = history_over c parts; room = 0 }

-- each undo behind the base holds what the keys of its prepare had
abbrev pub UndosRestore : Cut → List (List Version) → Type 0
UndosRestore c parts = RestoreUpTo (standing c parts) (end_of c)

-- the undo with this number is the first that does not
abbrev pub IsWrongUndo : Cut → List (List Version) → ℕ → Type 0
IsWrongUndo c parts = IsFirstWrong (standing c parts)

-- all of the edit's tables are right, and one undo is wrong over them
pub record IsIllegalOver (id : ℕ) (c : Cut) (edit : Edit) (bytes : List ℕ) (number : ℕ) : Type 0 where
  pub parts : List (List Version)
  pub there : HasTables id edit.flushed bytes edit.tables parts
  pub wrong : IsWrongUndo c parts number

-- all of the edit's tables are right, and so is each undo over them; and they do not cover what stands for them and the cut
pub record IsUncovered (id : ℕ) (c : Cut) (edit : Edit) (bytes : List ℕ) : Type 0 where
  pub parts : List (List Version)
  pub there : HasTables id edit.flushed bytes edit.tables parts
  pub undos : UndosRestore c parts
  pub not_covering : AreCovering c edit parts → ⊥

-- The base is ahead of what the edit has flushed; or it has flushed more entries than the log has; or one of its tables is wrong; or all
-- are right, and an undo is wrong; or all undos are right too, and the tables do not cover the history.
pub data IsEditDamaged (id : ℕ) (c : Cut) (edit : Edit) (bytes : List ℕ) (damage : Bad) : Type 0 where
  base_ahead : edit.flushed < c.base → damage ≡ bad.BaseAhead c.base edit.flushed → IsEditDamaged id c edit bytes damage
  log_behind : c.base ≤ edit.flushed → end_of c < edit.flushed → damage ≡ bad.LogBehind edit.flushed (end_of c) → IsEditDamaged id c edit bytes damage
  in_tables : IsWithin c edit → IsTableNamed id edit.flushed bytes edit.tables damage → IsEditDamaged id c edit bytes damage
  wrong_undo : (number : ℕ) → IsWithin c edit → IsIllegalOver id c edit bytes number → damage ≡ bad.Illegal number → IsEditDamaged id c edit bytes damage
  uncovered : IsWithin c edit → IsUncovered id c edit bytes → damage ≡ bad.Uncovered → IsEditDamaged id c edit bytes damage

-- ---- all three

-- The first fault is in the manifest; or, where that is right, in the log at the place that its last edit names; or both are right, and
-- have not one id; or they have, and the fault is in what the last edit says.
pub data IsDamaged (asked : ℕ) (log manifest tables : List ℕ) (damage : Bad) : Type 0 where
  in_manifest : IsManifestDamaged manifest damage → IsDamaged asked log manifest tables damage
  in_log : (found : ℕ) (edits : List Edit) → IsManifestOf found edits manifest → IsLogDamaged (place_of (last_edit edits)) log damage → IsDamaged asked log manifest tables damage
  in_ids : (id found : ℕ) (c : Cut) (edits : List Edit) → IsManifestOf found edits manifest → Finds asked id (place_of (last_edit edits)) c log → IsOther id found manifest → damage ≡ bad.Stranger id found → IsDamaged asked log manifest tables damage
  in_edit : (id : ℕ) (c : Cut) (edits : List Edit) → IsManifestOf id edits manifest → Finds asked id (place_of (last_edit edits)) c log → IsEditDamaged id c (last_edit edits) tables damage → IsDamaged asked log manifest tables damage
