-- What a renewal of the log answers, and what it leaves of the seat and of the three devices.
use Rattle.std.specs.Prelude.{◌≡◌, ◌≢◌, ◌⊎◌, ℕ, ◌<◌, true, false, List, [], ◌∷◌, ◌++◌, length, option_map, Option, Some, None, IfSome, Result, Ok, Err}
use Rattle.wp_model.specs.declared.entry.Entry.{Entry}
use Rattle.wp_model.specs.declared.segment.Segment.{Segment}
use Rattle.wp_model.specs.declared.version.Version.{Version}
use Rattle.wp_model.specs.Flushed.{InstalledEdit, IsEditCovered}
use Rattle.wp_model.specs.History.{undecided}
use Rattle.wp_model.specs.Legal.{undone_last}
use Rattle.wp_cuts.specs.Cut.{Cut, IsCut, cut_at}
use Rattle.wp_outside.specs.Disk.{IfKnown, Passes, images}
use Rattle.wp_outside.specs.Faults.{Rose}
use Rattle.wp_gatelog.specs.Moments.{Leaves}
use Rattle.wp_manifest.specs.Edit.{Edit}
use Rattle.wp_manifest.specs.Spelling.{IsManifestOf, last_edit}
use Rattle.wp_merge.specs.Merge.{sorted_of}
use Rattle.wp_contents.specs.Opens.{installed_of}
use Rattle.wp_replies.specs.Tables.{unflushed, after_renewal}
use Rattle.wp_table.specs.File.{HasTables}
use Rattle.wp_tableset.specs.Changes.{new_parts}
use Rattle.wp_wal.specs.Segment.{NewSegmentState}
use Rattle.wp_wal.specs.Spelling.{IsLogAt}
use Rattle.wp_wal.specs.Wal.{LeavesCut, LosesNothingAt}
use Rattle.wp_core.specs.Effects.{with_failed}
use Rattle.wp_core.specs.States.{WriteState, Installed, writes, installed}
use Rattle.wp_core.specs.Views.{tables_failed, log_failed, log_stopped, stopped}
use Rattle.wp_core.specs.Views as event
use Rattle.wp_core.specs.World.{Participant}
use Rattle.wp_parts.specs.VersionSet.{VersionSetState}
use Rattle.wp_parts.specs.Installs.{SurvivesInstall}
use Rattle.wp_parts.specs.Log.{LogState, IsLog, IsPlaceOf, IsSegmentOf}
use Rattle.wp_parts.specs.Parts.{LogStands, log_first, set_first}
use Rattle.wp_shared.specs.Calls.{Continues, with_events}
use Rattle.wp_shared.specs.Devices.{CalledNoDevice, LeftMarks}
use Rattle.wp_shared.specs.Seats.{SharedState, SeatState}
use Rattle.wp_shared.specs.Turns.{HoldsTurn}
use Rattle.wp_maint.specs.declared.renewed.Renewed.{Renewed}
use Rattle.wp_maint.specs.declared.renewed.RenewError.{RenewError}
use Rattle.wp_maint.specs.declared.renewed.RenewError.TheVariants.{Memory, TablesStopped, Stopped, Nothing, TableFault, LogFault}
use Rattle.wp_maint.specs.Calls.{AreSameTables, FailedOnce, Finds, found_by, HasFault, HeldContent, HeldTables, IsStopped, IsUncalled, SawWhole, TablesBecame}
use Rattle.wp_maint.specs.Moments.{LeftSince, OpensFromBase, OpensToSuch}

-- ---- what the seat holds

-- The seat holds the write turn with this state of the log, taken last, and beneath it the tables turn with these tables; both are the
-- store's.
pub record HoldsBoth {D : Type 0} (z : SharedState D) (s : SeatState) (e : VersionSetState) (log : LogState) (table : WriteState) : Type 0 where
  pub turn : HoldsTurn z s (writes table) (installed e.state ∷ []) (5 ∷ [])
  pub edits_of_store : set_first z.first ≡ Some e.first
  pub log_of_store : log_first z.first ≡ Some log.first

-- ---- the devices

-- The store's log on its device, with the one state and then with the other: as `TablesBecame` says it of the tables.
pub record LogBecame {D : Type 0} (z : SharedState D) (t next : WriteState) (So : LogState → LogState → Type 0) : Type 0 where
  pub before : LogState
  pub after : LogState
  pub of_store : log_first z.first ≡ Some before.first
  pub still_of_store : log_first z.first ≡ Some after.first
  pub before_is : before.state ≡ t
  pub after_is : after.state ≡ next
  pub log : IsLog before
  pub still_log : IsLog after
  pub so : So before after

-- What a crash leaves of the log while a segment is written beside it, and from then on: the history at the old place throughout, and what
-- was acknowledged there. Once the segment is on the device for good, the history is at its place too, cut at its base. It is the
-- segment of this history, and stands where that one has its place.
pub record SurvivesBeside (old new : LogState) (segment : Option Segment) : Type 0 where
  pub still : (c : Cut) → IsCut old.state.history c → c.base ≡ old.state.segment.base
      → Passes (Leaves (IsLogAt old.wal.id old.state.segment.place c)) old.wal.moments new.wal.moments
  pub durable : LosesNothingAt old.state.segment.place old.wal.moments new.wal.moments
  pub beside : IfSome segment (λ s. (s.base ≡ length old.state.history) × (s.place ≢ old.state.segment.place)
      × IfKnown new.wal.moments (LeavesCut old.wal.id s.place (cut_at old.state.history s.base)))
  pub placed : IfSome segment (λ s. (written : NewSegmentState) × IsSegmentOf old written × IsPlaceOf old written s.place)

-- First the tables' device is called, then the log's, and then the manifest's, each while the others are as they are then. That the code
-- calls them so, no clause tells: each device shows its own moments.
abbrev pub LeftInRenewal : VersionSetState → VersionSetState → LogState → LogState → (log manifest tables : List ℕ) → Type 0
LeftInRenewal old new log moved l m t =
    (images log.wal.moments l × images old.set.manifest.log.moments m × LeftSince old.set.moments new.set.moments t)
    ⊎ (LeftSince log.wal.moments moved.wal.moments l × images old.set.manifest.log.moments m × images new.set.moments t)
    ⊎ (images moved.wal.moments l × LeftSince old.set.manifest.log.moments new.set.manifest.log.moments m × images new.set.moments t)

-- the segment that an edit names, if there is one
abbrev pub segment_of : Option InstalledEdit → Option Segment
segment_of asked = option_map (λ (edit : InstalledEdit). edit.segment) asked

-- The manifest's bytes spell edits of which this is the last one, as these bytes of the other device have its tables.
pub record NamesEdit (s : VersionSetState) (manifest tables : List ℕ) (edit : InstalledEdit) : Type 0 where
  pub edits : List Edit
  pub parts : List (List Version)
  pub spelled : IsManifestOf s.set.manifest.log.id edits manifest
  pub is : edit ≡ installed_of edit.segment.base (last_edit edits) parts
  pub there : HasTables s.set.manifest.log.id (last_edit edits).flushed tables (last_edit edits).tables parts

-- Whatever a crash in the renewal leaves, the manifest's last edit is the old one, or the one that was asked for, if one was, and is so
-- with its tables; and at the place that this edit names the log spells the history, cut at the edit's base.
abbrev pub NamesItsSegment : VersionSetState → VersionSetState → LogState → LogState → Option InstalledEdit → Type 0
NamesItsSegment old new log moved asked = (l m t : List ℕ) → LeftInRenewal old new log moved l m t
    → (edit : InstalledEdit) × ((edit ≡ old.state.last) ⊎ (asked ≡ Some edit)) × NamesEdit old m t edit × IsLogAt log.wal.id edit.segment.place (cut_at log.state.history edit.segment.base) l

-- the edit's base is where the history ends, which is no undo, and the history covers it
abbrev pub IsAtEnd : List Entry → InstalledEdit → Type 0
IsAtEnd history edit = (undone_last history ≡ None) × IsEditCovered history edit × (edit.segment.base ≡ length history)

-- Whatever a crash in the renewal leaves, the three devices open to a list that is the history from the edit's base on, and to the last
-- edit, or the one that was asked for, if one was.
abbrev pub OpensInRenewal : VersionSetState → VersionSetState → LogState → LogState → Option InstalledEdit → Type 0
OpensInRenewal old new log moved asked =
    (l m t : List ℕ) → LeftInRenewal old new log moved l m t
    → (edit : InstalledEdit) × ((edit ≡ old.state.last) ⊎ (asked ≡ Some edit)) × OpensFromBase old.set.manifest.log.id log.state.history edit l m t

-- While no device is called, whatever a crash leaves of the three opens to a list that is such entries from the base of such an edit on,
-- and to that edit.
abbrev pub OpensUnmoved : (Spells : List Entry → Type 0) → (Names : InstalledEdit → Type 0) → VersionSetState → LogState → Type 0
OpensUnmoved Spells Names e log =
    (l m t : List ℕ) → images log.wal.moments l → images e.set.manifest.log.moments m → images e.set.moments t → OpensToSuch Spells Names e.set.manifest.log.id l m t

-- ---- refusals

-- The log, and what its device shows of itself, is as it was; and what a crash leaves of it is as its state says.
abbrev pub IsSameLog : LogState → LogState → Type 0
IsSameLog before after = (after ≡ before) × LogStands before

-- The log was closed before, at this published number; no device of the tables had failed. Both are as they were, in one world.
pub record IsClosed {D : Type 0} (Goes : Participant → Type 0) (z : SharedState D) (old new : SeatState) (e : Installed) (n : ℕ) : Type 0 where
  pub found : Finds z old new e
  pub running : e.halted ≡ false
  pub whole : SawWhole z old new.knows.participant.seen
  pub closed : (t : WriteState) × HeldContent z old new old.knows.participant.past (writes t) × (t.closed ≡ true)
  pub at_once : (closed.1.world.installed ≡ e) × (closed.1.world.writes ≡ closed.0)
  pub tables : TablesBecame z e e AreSameTables
  pub log : LogBecame z closed.0 closed.0 IsSameLog
  pub number : n ≡ length new.knows.participant.seen
  pub goes_on : Goes (with_events (found_by z old new e found ∷ stopped n ∷ []) old.knows.participant)

-- The log was not closed, and has the base already at which it would be renewed; it spells the whole history. Both are as they were, in one
-- world.
pub record IsRenewed {D : Type 0} (Goes : Participant → Type 0) (z : SharedState D) (old new : SeatState) (e : Installed) : Type 0 where
  pub found : Finds z old new e
  pub running : e.halted ≡ false
  pub whole : SawWhole z old new.knows.participant.seen
  pub unclosed : (t : WriteState) × HeldContent z old new old.knows.participant.past (writes t) × (t.closed ≡ false)
  pub at_once : (unclosed.1.world.installed ≡ e) × (unclosed.1.world.writes ≡ unclosed.0)
  pub spelled : unclosed.0.log ≡ new.knows.participant.seen
  pub tables : TablesBecame z e e AreSameTables
  pub log : LogBecame z unclosed.0 unclosed.0 IsSameLog
  pub based : e.last.segment.base ≡ length new.knows.participant.seen
  pub goes_on : Goes (with_events (found_by z old new e found ∷ []) old.knows.participant)

-- There was something to renew, and the log was not closed: one world of the store had these tables, and the log with the whole history,
-- when the seat held the write turn.
pub record IsBusy {D : Type 0} (z : SharedState D) (old new : SeatState) (e : Installed) : Type 0 where
  pub running : e.halted ≡ false
  pub whole : SawWhole z old new.knows.participant.seen
  pub unclosed : (t : WriteState) × HeldContent z old new old.knows.participant.past (writes t) × (t.closed ≡ false)
  pub at_once : (unclosed.1.world.installed ≡ e) × (unclosed.1.world.writes ≡ unclosed.0)
  pub history_is : unclosed.0.history ≡ new.knows.participant.seen
  pub below : e.last.segment.base < length new.knows.participant.seen

-- A device of the tables failed: before the segment was written, when no edit was asked for and the manifest was not called; or in the
-- install of the edit that names it, which a later opening may find then, and its segment beside the one in use. The log takes no entry
-- any more.
pub record HasBrokenOff {D : Type 0} (Goes : Participant → Type 0) (z : SharedState D) (old new : SeatState) (e : Installed) : Type 0 where
  pub found : Finds z old new e
  pub busy : IsBusy z old new e
  pub asked : Option InstalledEdit
  pub next : IfSome asked (λ edit. (place : ℕ) × (edit ≡ after_renewal new.knows.participant.seen place e.last))
  pub left : HeldTables z old new new.knows.participant.past (with_failed e asked)
  pub fault : TablesBecame z e (with_failed e asked) HasFault
  pub survives : (edit : InstalledEdit) × ((place : ℕ) × (edit ≡ after_renewal new.knows.participant.seen place e.last)) × IfSome asked (λ next. next ≡ edit) × SurvivesInstall fault.before fault.after edit
  pub uncalled : asked ≡ None → IsUncalled fault.before fault.after
  pub log : LogBecame z busy.unclosed.0 (record busy.unclosed.0 { next = segment_of asked; closed = true; stopped = true })
      (λ before after. SurvivesBeside before after (segment_of asked) × NamesItsSegment fault.before fault.after before after asked)
  pub goes_on : Goes (with_events (found_by z old new e found ∷ tables_failed e.last asked ∷ log_stopped ∷ []) old.knows.participant)

-- The log's device failed. Tables and manifest are as they were, but that the tables' device may have bytes that nothing names: of the
-- table of an edit that was not asked for. While that was written, a crash left the tables that there were.
pub record HasLogFault {D : Type 0} (Goes : Participant → Type 0) (z : SharedState D) (old new : SeatState) (e : Installed) : Type 0 where
  pub found : Finds z old new e
  pub busy : IsBusy z old new e
  pub left : HeldTables z old new new.knows.participant.past e
  pub tables : TablesBecame z e e IsUncalled
  pub survives : (edit : InstalledEdit) × ((place : ℕ) × (edit ≡ after_renewal new.knows.participant.seen place e.last)) × SurvivesInstall tables.before tables.after edit
  pub log : LogBecame z busy.unclosed.0 (record busy.unclosed.0 { closed = true })
      (λ before after. Rose before.wal.faults after.wal.faults × SurvivesBeside before after None × NamesItsSegment tables.before tables.after before after None)
  pub goes_on : Goes (with_events (found_by z old new e found ∷ log_failed [] ∷ []) old.knows.participant)

-- Memory ran out before the first call of a device: tables, manifest and log are as they were. A crash left the last edit, with its
-- tables, and the history at the place that it names.
pub record HasNoMemory {D : Type 0} (Goes : Participant → Type 0) (z : SharedState D) (old new : SeatState) (e : Installed) : Type 0 where
  pub busy : IsBusy z old new e
  pub tables : TablesBecame z e e AreSameTables
  pub log : LogBecame z busy.unclosed.0 busy.unclosed.0 (λ before after. IsSameLog before after × NamesItsSegment tables.before tables.after before after None)
  pub goes_on : Goes old.knows.participant

-- ---- the renewal

-- The log is in a segment that begins where the history ended, in a world that the seat was in, and carries what was undecided there; and
-- all that stood in memory is in one table more, if something did. The last edit names both. As `TablesBecame` and `LogBecame` say, of two
-- states of each: at each moment between them a crash left the edits before that one, or those and it; and at the place that the one left
-- names the log spelled the history, cut at its base.
pub record HasRenewed {D : Type 0} (Goes : Participant → Type 0) (z : SharedState D) (old new : SeatState) (e : Installed) (done : Renewed) : Type 0 where
  pub found : Finds z old new e
  pub busy : IsBusy z old new e
  pub at : done.at ≡ length new.knows.participant.seen
  pub carried : done.carried ≡ length (undecided new.knows.participant.seen)
  pub place : ℕ
  pub left : HeldTables z old new new.knows.participant.past (record e { last = after_renewal new.knows.participant.seen place e.last })
  pub tables : TablesBecame z e (record e { last = after_renewal new.knows.participant.seen place e.last })
      (λ before after. after.parts ≡ new_parts (sorted_of (unflushed new.knows.participant.seen e.last)) ++ before.parts)
  pub survives : SurvivesInstall tables.before tables.after (after_renewal new.knows.participant.seen place e.last)
  pub log : LogBecame z busy.unclosed.0 (record busy.unclosed.0 { segment = record { place = place; base = length new.knows.participant.seen }; next = None })
      (λ before after. SurvivesBeside before after (Some after.state.segment) × NamesItsSegment tables.before tables.after before after (Some (after_renewal new.knows.participant.seen place e.last)))
  pub goes_on : Goes (with_events (found_by z old new e found ∷ event.renewed (after_renewal new.knows.participant.seen place e.last) ∷ []) old.knows.participant)

-- what it answers and leaves where it finds these tables
abbrev pub RenewsFrom : {D : Type 0} → (Participant → Type 0) → SharedState D → SeatState → Installed → Result Renewed RenewError → SeatState → Type 0
RenewsFrom Goes z old e (Ok done) new = HasRenewed Goes z old new e done
RenewsFrom Goes z old e (Err Memory) new = HasNoMemory Goes z old new e
RenewsFrom Goes z old e (Err (TablesStopped flushed)) new = IsStopped Goes z old new e flushed
RenewsFrom Goes z old e (Err (Stopped n)) new = IsClosed Goes z old new e n
RenewsFrom Goes z old e (Err Nothing) new = IsRenewed Goes z old new e
RenewsFrom Goes z old e (Err TableFault) new = HasBrokenOff Goes z old new e
RenewsFrom Goes z old e (Err LogFault) new = HasLogFault Goes z old new e

-- what a renewal answers and leaves, where the tables were so as it found them
abbrev pub Renews : {D : Type 0} → SharedState D → SeatState → Result Renewed RenewError → SeatState → Type 0
Renews z old result new = (e : Installed) × RenewsFrom (Continues z old new) z old e result new

-- ---- what a refusal left of the devices

-- this is so, unless the answer is that a device of the tables failed
abbrev pub UnlessDeviceFault : Type 0 → RenewError → Type 0
UnlessDeviceFault So TableFault = Unit {0}
UnlessDeviceFault So other = So

-- this is so of the refusals that come before the first call of a device: all but those that a device gives
abbrev pub BeforeDevices : Type 0 → RenewError → Type 0
BeforeDevices So TableFault = Unit {0}
BeforeDevices So LogFault = Unit {0}
BeforeDevices So other = So

-- What a refused renewal did with the devices: as a refused flush. Where the log's device failed that is its only mark, and the manifest's
-- was not called.
abbrev pub IsRefusedBefore : (Leaves : Type 0) → SeatState → RenewError → SeatState → Type 0
IsRefusedBefore Leaves old TableFault new = FailedOnce (log_stopped ∷ []) old.knows.participant new.knows.participant
IsRefusedBefore Leaves old LogFault new = LeftMarks (log_failed [] ∷ []) old.knows.participant new.knows.participant × Leaves
IsRefusedBefore Leaves old other new = CalledNoDevice old.knows.participant new.knows.participant × Leaves
