-- An edit between the stages of its install.
use Rattle.std.specs.Prelude.{◌≡◌, ◌≤◌, ◌<◌, ℕ, Bool, true, false, List, [], ◌∷◌, length, Option, Some, None}
use Rattle.std.specs.List.{list_all}
use Rattle.wp_model.specs.declared.version.Version.{Version}
use Rattle.wp_model.specs.Versions.{AreInOrder}
use Rattle.wp_outside.specs.Disk.{IfKnown, Moment}
use Rattle.wp_manifest.specs.Edit.{Edit, no_edit}
use Rattle.wp_manifest.specs.Manifest.{ManifestState, NamesThere}
use Rattle.wp_table.specs.File.{HasTables}
use Rattle.wp_table.specs.Table.{SpellsTable, is_flushed, is_numbered, written_bytes}
use Rattle.wp_table.specs.Walk.{BuiltTable}
use Rattle.wp_tableset.specs.Changes.{Asked, NewestIsWritten, edit_for, new_places, parts_after}
use Rattle.wp_tableset.specs.Set.{TableSetState, RestsWith, StoresTables}
use Rattle.wp_tableset.specs.declared.gone.Gone.TheVariants.{Frozen}

-- a set that is not halted may install a further edit, and its last edit has no more tables than flushed entries
pub record IsReady (manifest : ManifestState) (halted : Bool) : Type 0 where
  pub running : halted ≡ false → manifest.log.closed ≡ false
  pub count : length manifest.edit.tables ≤ manifest.edit.flushed

-- an edit with all the memory that its install takes, the table that is to be written for it, if there is one, and what was asked of it
pub record ReadyState : Type 0 where
  pub edit : Edit
  pub built : Option BuiltTable
  pub asked : Asked

-- an edit whose table is written, if it has one, with the table's place, and what was asked of it
pub record WrittenEditState : Type 0 where
  pub edit : Edit
  pub asked : Asked

-- these versions as a table that was built, if there are any
abbrev pub built_of : ℕ → List Version → Option BuiltTable
built_of id [] = None
built_of id (v ∷ versions) = Some (record { bytes = written_bytes id (v ∷ versions); versions = v ∷ versions })

-- a table without a place yet, if there is one
abbrev pub unplaced : Option BuiltTable → List (ℕ × ℕ)
unplaced None = []
unplaced (Some built) = (0, length built.bytes) ∷ []

-- these versions may be in a table, with the entries up to `flushed` in tables: one more beside those that stay flushes more entries
pub record MayInstall (set : TableSetState) (asked : Asked) : Type 0 where
  pub numbered : list_all is_numbered asked.versions ≡ true
  pub flushed_all : list_all (is_flushed asked.flushed) asked.versions ≡ true
  pub later : set.manifest.edit.flushed ≤ asked.flushed
  pub more : asked.gone ≡ Frozen → 1 ≤ length asked.versions → set.manifest.edit.flushed < asked.flushed

-- an edit is ready, and its table, if it has one, spells the versions; its places are not said yet
pub record IsReadyEdit (set : TableSetState) (r : ReadyState) : Type 0 where
  pub may : MayInstall set r.asked
  pub in_order : AreInOrder r.asked.versions
  pub edit : r.edit ≡ edit_for set r.asked 0 0
  pub built : r.built ≡ built_of set.manifest.log.id r.asked.versions
  pub spelled : 1 ≤ length r.asked.versions → SpellsTable set.manifest.log.id r.asked.flushed r.asked.versions (written_bytes set.manifest.log.id r.asked.versions)

-- The edit's table, if it has one, is written, and the edit names its place; nothing else does. The tables that there were, and it,
-- are there for good. What was before is `old`.
pub record IsWrittenEdit (old set : TableSetState) (w : WrittenEditState) : Type 0 where
  pub may : MayInstall old w.asked
  pub in_order : AreInOrder w.asked.versions
  pub place : ℕ
  pub edit : w.edit ≡ edit_for old w.asked 0 place
  pub changed : set ≡ record old { moments = set.moments }
  pub wrote : NewestIsWritten old.moments set.moments (new_places old.manifest.log.id w.asked.versions place)
  pub stores : (edits : List Edit) (parts : List (List Version)) → StoresTables old edits no_edit parts [] → StoresTables set edits no_edit parts []
  pub there : (log : ℕ) (edits : List Edit) (parts : List (List Version)) → StoresTables old edits no_edit parts [] → IfKnown set.moments (RestsWith old.manifest.log.id (edit_for old w.asked log place) (parts_after w.asked parts))

-- the bytes have the edit's tables, of some versions
abbrev pub HasSome : TableSetState → Edit → List ℕ → Type 0
HasSome set edit bytes = (parts : List (List Version)) × HasTables set.manifest.log.id edit.flushed bytes edit.tables parts

-- each image that the manifest's device has at the moment, with each that the tables' device has now, is of an edit and its tables
abbrev pub NamesItsTables : TableSetState → Moment → Type 0
NamesItsTables set = NamesThere (HasSome set) set.manifest.log.id set.moments
