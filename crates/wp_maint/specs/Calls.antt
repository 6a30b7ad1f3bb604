-- What a flush answers, and what it leaves of the seat; and what a compaction and a renewal say in the same words.
use Rattle.std.specs.Prelude.{◌≡◌, ℕ, ◌≤◌, true, false, List, [], ◌∷◌, filter, length, take, Option, Some, IfSome, Result, Ok, Err}
use Rattle.wp_model.specs.declared.entry.Entry.{Entry}
use Rattle.wp_model.specs.declared.version.Version.{Version}
use Rattle.wp_model.specs.Flushed.{InstalledEdit}
use Rattle.wp_merge.specs.Merge.{sorted_of}
use Rattle.wp_replies.specs.Tables.{unflushed, after_flush}
use Rattle.wp_core.specs.Effects.{with_failed}
use Rattle.wp_core.specs.Lists.{IsIn}
use Rattle.wp_core.specs.Sound.Actors.{StartsWith}
use Rattle.wp_core.specs.Sound.Pasts.{is_install, tables_due}
use Rattle.wp_core.specs.States.{Content, Installed, writes, installed}
use Rattle.wp_core.specs.Views.{Event, tables_failed, found_edit}
use Rattle.wp_core.specs.Views as event
use Rattle.wp_core.specs.World.{Actor, Participant, World}
use Rattle.wp_rule.specs.Words.{IsAt}
use Rattle.wp_parts.specs.VersionSet.{VersionSetState, IsEdits}
use Rattle.wp_parts.specs.Installs.{HadCause, SurvivesInstall}
use Rattle.wp_parts.specs.Parts.{EditsStand, set_first}
use Rattle.wp_shared.specs.Calls.{Continues, with_events}
use Rattle.wp_shared.specs.Devices.{CalledNoDevice, LeftMarks}
use Rattle.wp_shared.specs.Seats.{SharedState, SeatState, place_at}
use Rattle.wp_maint.specs.Moments.{OpensThroughout}
use Rattle.wp_maint.specs.declared.done.Done.{Done}
use Rattle.wp_maint.specs.declared.error.MaintError.{MaintError}
use Rattle.wp_maint.specs.declared.error.MaintError.TheVariants.{Memory, Nothing, TableFault, TablesStopped}

-- ---- what the seat held

-- In a reached world of the store the seat held a turn, with this state. It had this past then, had seen no less than
-- before the call and no more than after it, and had made and taken in as many others.
pub record HeldContent {D : Type 0} (z : SharedState D) (old new : SeatState) (past : List Event) (table : Content) : Type 0 where
  pub world : World
  pub actor : Actor
  pub there : IsAt (place_at z old.by) actor world
  pub held : IsIn table actor.held
  pub past_is : actor.participant.past ≡ past
  pub seen_is : StartsWith actor.participant.seen old.knows.participant.seen
  pub within : StartsWith new.knows.participant.seen actor.participant.seen
  pub made : actor.made ≡ old.knows.made
  pub joined : actor.joined ≡ old.knows.joined

-- ... the tables turn, with this one
abbrev pub HeldTables : {D : Type 0} → SharedState D → SeatState → SeatState → List Event → Installed → Type 0
HeldTables z old new past e = HeldContent z old new past (installed e)

-- In a reached world of the store this was the whole history, and the seat, which held the write turn, had seen it. It had the past
-- then that it had before the call, and had made and taken in as many others.
pub record SawWhole {D : Type 0} (z : SharedState D) (old : SeatState) (history : List Entry) : Type 0 where
  pub world : World
  pub actor : Actor
  pub there : IsAt (place_at z old.by) actor world
  pub held : IsIn (writes world.writes) actor.held
  pub history_is : world.writes.history ≡ history
  pub seen_is : actor.participant.seen ≡ history
  pub past_is : actor.participant.past ≡ old.knows.participant.past
  pub made : actor.made ≡ old.knows.made
  pub joined : actor.joined ≡ old.knows.joined

-- the tables as the call found them
abbrev pub Finds : {D : Type 0} → SharedState D → SeatState → SeatState → Installed → Type 0
Finds z old new e = HeldTables z old new old.knows.participant.past e

-- what it remembers of them: how many it knew of is told by its past, and by the first edit of that world
abbrev pub found_by : {D : Type 0} → (z : SharedState D) → (old new : SeatState) → (e : Installed) → Finds z old new e → Event
found_by z old new e found = found_edit e.last.flushed e.last.segment.base e.last.tables (tables_due found.world.first_edit old.knows.participant.past) e.halted

-- The store's tables on their devices, as the call found them, with this state, and as it left them, with that one. Both are what
-- the value behind the turn may be: the devices have the tables that it names, one has failed since the opening just where it is halted,
-- and what was for good then is so still. No clause of a call on a shared store sees its devices: that the value was the one and became the
-- other in this very call is what the install itself says, of the value that the call took out from behind the turn.
pub record TablesBecame {D : Type 0} (z : SharedState D) (e next : Installed) (So : VersionSetState → VersionSetState → Type 0) : Type 0 where
  pub before : VersionSetState
  pub after : VersionSetState
  pub of_store : set_first z.first ≡ Some before.first
  pub still_of_store : set_first z.first ≡ Some after.first
  pub before_is : before.state ≡ e
  pub after_is : after.state ≡ next
  pub edits : IsEdits before
  pub still_edits : IsEdits after
  pub so : So before after

-- a table of these versions is the newest of them, before those that were there
abbrev pub HasNewest : List Version → VersionSetState → VersionSetState → Type 0
HasNewest versions before after = after.parts ≡ versions ∷ before.parts

-- a call to one of the two devices failed: its count rose
abbrev pub HasFault : VersionSetState → VersionSetState → Type 0
HasFault before after = HadCause before.set after.set

-- ---- refusals

-- Each outcome but want of memory begins with the tables as the call found them, which the seat remembers, and says of which
-- participant the seat goes on as, where `Goes` says so.

-- a device had failed before, when this was the flushed number
pub record IsStopped {D : Type 0} (Goes : Participant → Type 0) (z : SharedState D) (old new : SeatState) (e : Installed) (flushed : ℕ) : Type 0 where
  pub found : Finds z old new e
  pub halted : e.halted ≡ true
  pub flushed_is : flushed ≡ e.last.flushed
  pub goes_on : Goes (with_events (found_by z old new e found ∷ []) old.knows.participant)

-- no device had failed, and there was nothing to do
pub record HasNothing {D : Type 0} (Goes : Participant → Type 0) (z : SharedState D) (old new : SeatState) (e : Installed) (Idle : InstalledEdit → Type 0) : Type 0 where
  pub found : Finds z old new e
  pub running : e.halted ≡ false
  pub idle : Idle e.last
  pub goes_on : Goes (with_events (found_by z old new e found ∷ []) old.knows.participant)

-- A device failed where there was something to do, as `Busy` says. The last edit stays; a later opening may find the one that was
-- to be installed, where the manifest was called for it. As `TablesBecame` says, of two states: a device's count rose, and at each
-- moment between them a crash left the edits up to the last one, or those and that one, and their tables; and what a crash left of all
-- three devices opened to the history that the log spelled.
pub record HasFailed {D : Type 0} (Goes : Participant → Type 0) (z : SharedState D) (old new : SeatState) (e : Installed) (Busy : Type 0) (IsNext : InstalledEdit → Type 0) : Type 0 where
  pub found : Finds z old new e
  pub running : e.halted ≡ false
  pub busy : Busy
  pub asked : Option InstalledEdit
  pub next : IfSome asked IsNext
  pub left : HeldTables z old new new.knows.participant.past (with_failed e asked)
  pub fault : TablesBecame z e (with_failed e asked) HasFault
  pub survives : (edit : InstalledEdit) × IsNext edit × SurvivesInstall fault.before fault.after edit × OpensThroughout old.knows.participant.seen new.knows.participant.seen fault.before fault.after edit
  pub goes_on : Goes (with_events (found_by z old new e found ∷ tables_failed e.last asked ∷ []) old.knows.participant)

-- ---- a flush

-- no version stands in memory: none of these entries has one above the flushed number, nor of the first ones of them
abbrev pub NoneInMemory : List Entry → InstalledEdit → Type 0
NoneInMemory seen edit = (n : ℕ) → unflushed (take n seen) edit ≡ []

-- All that stood in memory is in one table more, up to the number that was published in a world that the seat was in. The last edit
-- names that table. As `TablesBecame` says, of two states: a table with just these versions came before those that were there, and
-- at each moment between them a crash left the edits before that one, or those and it, and their tables; and what a crash left of all
-- three devices opened to the history that the log spelled.
pub record HasFlushed {D : Type 0} (Goes : Participant → Type 0) (z : SharedState D) (old new : SeatState) (e : Installed) (done : Done) : Type 0 where
  pub found : Finds z old new e
  pub running : e.halted ≡ false
  pub at : done.at ≡ length new.knows.participant.seen
  pub whole : SawWhole z old new.knows.participant.seen
  pub some : 1 ≤ done.versions
  pub versions : done.versions ≡ length (unflushed new.knows.participant.seen e.last)
  pub left : HeldTables z old new new.knows.participant.past (record e { last = after_flush new.knows.participant.seen e.last })
  pub tables : TablesBecame z e (record e { last = after_flush new.knows.participant.seen e.last }) (HasNewest (sorted_of (unflushed new.knows.participant.seen e.last)))
  pub survives : SurvivesInstall tables.before tables.after (after_flush new.knows.participant.seen e.last)
  pub throughout : OpensThroughout old.knows.participant.seen new.knows.participant.seen tables.before tables.after (after_flush new.knows.participant.seen e.last)
  pub goes_on : Goes (with_events (found_by z old new e found ∷ event.installed (after_flush new.knows.participant.seen e.last) false ∷ []) old.knows.participant)

-- What it answers and leaves where it finds these tables. Where there was nothing to flush, or a device failed, the seat had seen
-- the whole history as well.
abbrev pub FlushesFrom : {D : Type 0} → (Participant → Type 0) → SharedState D → SeatState → Installed → Result Done MaintError → SeatState → Type 0
FlushesFrom Goes z old e (Ok done) new = HasFlushed Goes z old new e done
FlushesFrom Goes z old e (Err Memory) new = Goes old.knows.participant
FlushesFrom Goes z old e (Err Nothing) new = SawWhole z old new.knows.participant.seen × HasNothing Goes z old new e (NoneInMemory new.knows.participant.seen)
FlushesFrom Goes z old e (Err TableFault) new = SawWhole z old new.knows.participant.seen × HasFailed Goes z old new e (1 ≤ length (unflushed new.knows.participant.seen e.last)) (λ edit. edit ≡ after_flush new.knows.participant.seen e.last)
FlushesFrom Goes z old e (Err (TablesStopped flushed)) new = IsStopped Goes z old new e flushed

-- what a flush answers and leaves, where the tables were so as it found them
abbrev pub Flushes : {D : Type 0} → SharedState D → SeatState → Result Done MaintError → SeatState → Type 0
Flushes z old result new = (e : Installed) × FlushesFrom (Continues z old new) z old e result new

-- ---- the devices

-- The manifest's device was not called: its count and its moments are as they were.
abbrev pub IsUncalled : VersionSetState → VersionSetState → Type 0
IsUncalled before after = after.set.manifest ≡ before.set.manifest

-- The tables, and what their devices show of themselves, are as they were; and what a crash leaves of these is as the state says.
abbrev pub AreSameTables : VersionSetState → VersionSetState → Type 0
AreSameTables before after = (after ≡ before) × EditsStand before

-- The call took these tables from behind the turn, and gave them back so.
abbrev pub GivesBack : {D : Type 0} → (VersionSetState → VersionSetState → Type 0) → SharedState D → SeatState → SeatState → Installed → Type 0
GivesBack So z old new e = Finds z old new e × TablesBecame z e e So

-- ... with the manifest's device uncalled
abbrev pub LeavesOnce : {D : Type 0} → SharedState D → SeatState → SeatState → Type 0
LeavesOnce z old new = (e : Installed) × GivesBack IsUncalled z old new e

-- ... as they were: so a flush, which takes them once
abbrev pub KeepsOnce : {D : Type 0} → SharedState D → SeatState → SeatState → Type 0
KeepsOnce z old new = (e : Installed) × Finds z old new e × TablesBecame z e e AreSameTables

-- ... and a compaction, which takes them in each round, unless it wants memory before it does: each time that it took them. That there
-- was no other time no clause tells; but a device that was called then leaves its mark.
abbrev pub KeepsEach : {D : Type 0} → SharedState D → SeatState → SeatState → Type 0
KeepsEach z old new = (taken : List Installed) × ((e : Installed) → IsIn e taken → GivesBack AreSameTables z old new e)

-- its marks are that a device of the tables failed, and then these
abbrev pub FailedOnce : List Event → Participant → Participant → Type 0
FailedOnce others old new = (last : InstalledEdit) × (asked : Option InstalledEdit) × LeftMarks (tables_failed last asked ∷ others) old new

-- the seat installed no edit
abbrev pub InstalledNone : Participant → Participant → Type 0
InstalledNone old new = filter is_install new.past ≡ filter is_install old.past

-- this is so, unless the answer is that a device failed
abbrev pub UnlessFault : Type 0 → MaintError → Type 0
UnlessFault So TableFault = Unit {0}
UnlessFault So other = So

-- What a refused call did with the devices. Where it says that one failed, that is its only mark: it made no more than that install, or it
-- could not write the table, and the manifest was not called. Where it says anything else, want of memory too, it left none. So it called
-- no device, also not behind a log that had failed before: its append leaves numbers of its own, or that it failed; its segment a renewed
-- edit, or that the log was stopped; and its table an edit, or that this failed, or the log.
abbrev pub RefusesBeforeDevices : (Keeps : Type 0) → SeatState → MaintError → SeatState → Type 0
RefusesBeforeDevices Keeps old TableFault new = FailedOnce [] old.knows.participant new.knows.participant
RefusesBeforeDevices Keeps old other new = CalledNoDevice old.knows.participant new.knows.participant × Keeps
