-- The tables' edit that comes next, between the stages of its install, and what is left where it is refused.
use Rattle.std.specs.Prelude.{◌≡◌, ◌⊎◌, ℕ, ◌<◌, List, [], ◌∷◌, ◌++◌, length, Some}
use Rattle.wp_model.specs.declared.entry.Entry.{Entry}
use Rattle.wp_model.specs.declared.segment.Segment.{Segment}
use Rattle.wp_model.specs.declared.version.Version.{Version}
use Rattle.wp_model.specs.Flushed.{InstalledEdit}
use Rattle.wp_outside.specs.Disk.{IfKnown, Passes}
use Rattle.wp_outside.specs.Faults.{Rose}
use Rattle.wp_gatelog.specs.Moments.{Leaves}
use Rattle.wp_manifest.specs.Edit.{Edit, no_edit}
use Rattle.wp_manifest.specs.Spelling.{last_edit, IsManifestOrNext}
use Rattle.wp_contents.specs.Opens.{installed_of}
use Rattle.wp_tableset.specs.Changes.{Asked, new_parts}
use Rattle.wp_tableset.specs.Install.{ReadyState, WrittenEditState, IsReadyEdit, IsWrittenEdit, NamesItsTables}
use Rattle.wp_tableset.specs.Set.{TableSetState, LeavesTables, StoresTables}
use Rattle.wp_core.specs.Effects.{with_failed}
use Rattle.wp_core.specs.States.{Installed}
use Rattle.wp_core.specs.Views.{Event, log_failed}
use Rattle.wp_parts.specs.VersionSet.{VersionSetState, IsEdits, asked_for}

-- ---- the stages

-- an edit that is ready, and for what of how many tables there is room
pub record ReadyInstallState : Type 0 where
  pub edit : ReadyState
  pub room : ℕ

-- an edit whose table is written, what that has, if there is one, for what of how many tables there is room, and what the seat remembered
-- that wrote it
pub record WrittenInstallState : Type 0 where
  pub edit : WrittenEditState
  pub tables : List (List Version)
  pub room : ℕ
  pub past : List Event

-- of these two pasts the second is the first and more, and its last event is that the log failed
abbrev pub FailedSince : List Event → List Event → Type 0
FailedSince before now = (events : List Event) × (entries : List Entry) × (now ≡ before ++ (events ++ log_failed entries ∷ []))

-- it is ready for these tables, and there is room for what one more has
pub record IsReadyFor (e : VersionSetState) (ready : ReadyInstallState) : Type 0 where
  pub edit : IsReadyEdit e.set ready.edit
  pub room : length e.parts < ready.room

-- Of a set as it was, and as it is now that the edit's table is written, if it has one: nothing else was made of it.
pub record IsBehind (before now : VersionSetState) (w : WrittenInstallState) : Type 0 where
  pub was : IsEdits before
  pub written : IsWrittenEdit before.set now.set w.edit
  pub tables_are : w.tables ≡ new_parts w.edit.asked.versions
  pub room : length now.parts < w.room
  pub state : now.state ≡ before.state
  pub parts : now.parts ≡ before.parts
  pub first : now.first ≡ before.first

-- the last edit once it is installed, with the log in this segment
abbrev pub next_edit : VersionSetState → WrittenInstallState → Segment → InstalledEdit
next_edit s w segment = asked_for w.edit.asked segment s.state.last

-- ... and the state behind the turn then, or once it has failed
abbrev pub state_with : VersionSetState → WrittenInstallState → Segment → Installed
state_with s w segment = record s.state { last = next_edit s w segment }

abbrev pub state_without : VersionSetState → WrittenInstallState → Segment → Installed
state_without s w segment = with_failed s.state (Some (next_edit s w segment))

-- the device of the tables was not called, as its moments and its count show
abbrev pub KeepsDevice : TableSetState → TableSetState → Type 0
KeepsDevice old new = (new.moments ≡ old.moments) × (new.faults ≡ old.faults)

abbrev pub manifest_faults : VersionSetState → ℕ
manifest_faults s = s.set.manifest.log.faults

-- a device that failed was called just then: its count rose
abbrev pub HadCause : TableSetState → TableSetState → Type 0
HadCause old new = Rose old.manifest.log.faults new.manifest.log.faults ⊎ Rose old.faults new.faults

-- What a crash leaves while an edit is being installed. The set stored the edits up to the last one, and its tables. At each moment
-- since then the manifest spells those, or those and this one, and the tables' device has the last one's tables. Where the manifest's device was called for it, the tables'
-- device has this one's tables too in the end.
pub record SurvivesInstall (old new : VersionSetState) (edit : InstalledEdit) : Type 0 where
  pub edits : List Edit
  pub next : Edit
  pub next_parts : List (List Version)
  pub stores : StoresTables old.set edits no_edit old.parts []
  pub last_is : old.state.last ≡ installed_of old.state.last.segment.base (last_edit edits) old.parts
  pub next_is : edit ≡ installed_of edit.segment.base next next_parts
  pub manifest : Passes (Leaves (IsManifestOrNext old.set.manifest.log.id edits next)) old.set.manifest.log.moments new.set.manifest.log.moments
  pub tables : Passes (LeavesTables old.set.manifest.log.id (last_edit edits) old.parts) old.set.moments new.set.moments
  pub next_tables : (new.set.manifest.log.moments ≡ old.set.manifest.log.moments) ⊎ IfKnown new.set.moments (LeavesTables old.set.manifest.log.id next next_parts)

-- ... while its table is written, whatever segment the edit is to name
abbrev pub SurvivesWrite : VersionSetState → VersionSetState → Asked → Type 0
SurvivesWrite old new asked = (segment : Segment) → SurvivesInstall old new (asked_for asked segment old.state.last)

-- ... while it is installed, since its table was to be written
abbrev pub SurvivesSince : VersionSetState → VersionSetState → WrittenInstallState → InstalledEdit → Type 0
SurvivesSince old new written edit = (before : VersionSetState) → IsBehind before old written → SurvivesInstall before new edit

abbrev pub SurvivesNext : VersionSetState → VersionSetState → WrittenInstallState → Segment → Type 0
SurvivesNext old new w segment = SurvivesSince old new w (next_edit old w segment)

-- Whatever a crash leaves of both devices at a moment between the two, the manifest's last edit has its tables.
abbrev pub KeepsBoth : VersionSetState → VersionSetState → WrittenInstallState → Type 0
KeepsBoth old new written = (before : VersionSetState) → IsBehind before old written → Passes (NamesItsTables old.set) old.set.manifest.log.moments new.set.manifest.log.moments
