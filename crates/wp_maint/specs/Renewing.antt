-- The stages of a renewal, while the seat holds the tables turn and the write turn.
use Rattle.std.specs.Prelude.{◌≡◌, ◌≢◌, true, false, [], ◌∷◌, Option, Some, None, IfErr, Result, Ok, Err}
use Rattle.wp_model.specs.Flushed.{InstalledEdit, IsEditCovered}
use Rattle.wp_outside.specs.Faults.{Rose}
use Rattle.wp_tableset.specs.Changes.{parts_after}
use Rattle.wp_tableset.specs.declared.gone.Gone.TheVariants as gone
use Rattle.wp_wal.specs.Segment.{WrittenState}
use Rattle.wp_core.specs.Effects.{with_failed}
use Rattle.wp_core.specs.States.{installed, writes}
use Rattle.wp_core.specs.Views.{log_failed, log_stopped, tables_failed}
use Rattle.wp_core.specs.Views as event
use Rattle.wp_core.specs.World.{Participant, World}
use Rattle.wp_rule.specs.Knows.{KnowsTables}
use Rattle.wp_parts.specs.VersionSet.{VersionSetState, IsEdits, asked_for}
use Rattle.wp_parts.specs.Installs.{ReadyInstallState, WrittenInstallState, IsBehind, SurvivesSince, SurvivesWrite}
use Rattle.wp_parts.specs.Log.{LogState, IsLog, IsWaiting, with_next, with_segment}
use Rattle.wp_shared.specs.Calls.{with_events}
use Rattle.wp_shared.specs.Notes.{no_fact, with_participant, GoesOn}
use Rattle.wp_shared.specs.Seats.{SharedState, SeatState, Stands}
use Rattle.wp_maint.specs.declared.renewed.Renewed.{Renewed}
use Rattle.wp_maint.specs.declared.renewed.RenewError.{RenewError}
use Rattle.wp_maint.specs.declared.renewed.RenewError.TheVariants.{TableFault, LogFault}
use Rattle.wp_maint.specs.Calls.{Finds, found_by, HasFault, IsUncalled}
use Rattle.wp_maint.specs.Holding.{is_of_flushed}
use Rattle.wp_maint.specs.Installs.{AreLeft}
use Rattle.wp_maint.specs.Renewal.{BeforeDevices, HoldsBoth, RenewsFrom, SurvivesBeside, UnlessDeviceFault, segment_of}

-- ---- a device of the tables failed

-- The seat found these tables and halted them, where this edit was asked for, if one was; and it stopped the log, whose device was not
-- called. What a crash left of the tables' devices meanwhile, the call before says.
pub record HasStopped {D : Type 0} (z : SharedState D) (Survives : VersionSetState → VersionSetState → Type 0) (old : SeatState) (e : VersionSetState) (log : LogState) (asked : Option InstalledEdit) (new : SeatState) (left : VersionSetState) (now : LogState) : Type 0 where
  pub state : left.state ≡ with_failed e.state asked
  pub stopped : now ≡ record log { state = record log.state { next = segment_of asked; closed = true; stopped = true } }
  pub holds : HoldsBoth z new left now now.state
  pub found : Finds z old new e.state
  pub goes : GoesOn no_fact (writes now.state ∷ installed left.state ∷ []) old.turns
      (with_participant (with_events (found_by z old new e.state found ∷ tables_failed e.state.last asked ∷ log_stopped ∷ []) old.knows.participant) old) new
  pub fault : HasFault e left
  pub survives : Survives e left
  pub edits : IsEdits e
  pub still_edits : IsEdits left
  pub log_is : IsLog log
  pub still_log : IsLog now
  pub stands : (w : World) × Stands z new w

-- ---- the table

-- What the write of the table leaves: the edit behind it, or a stopped store. A crash meanwhile left the tables that there were.
abbrev pub WritesTable : {D : Type 0} → SharedState D → SeatState → VersionSetState → LogState → ReadyInstallState → Result WrittenInstallState RenewError → SeatState → VersionSetState → LogState → Type 0
WritesTable z old e log edit (Ok written) new left now = (new ≡ old) × (now ≡ log) × (left.state ≡ e.state) × HoldsBoth z new left now now.state × IsBehind e left written × (written.edit.asked ≡ edit.edit.asked) × SurvivesWrite e left edit.edit.asked
WritesTable z old e log edit (Err TableFault) new left now = HasStopped z (λ before after. SurvivesWrite before after edit.edit.asked × IsUncalled before after) old e log None new left now
WritesTable z old e log edit (Err other) new left now = ⊥

-- ---- the segment

-- it waits beside the log, which has the history where it was
pub record HasSegment {D : Type 0} (z : SharedState D) (old : SeatState) (e : VersionSetState) (log : LogState) (written : WrittenState) (new : SeatState) (now : LogState) : Type 0 where
  pub state : now.state ≡ log.state
  pub first : now.first ≡ log.first
  pub waits : IsWaiting now written
  pub holds : HoldsBoth z new e now (with_next now.state written.segment)
  pub goes : GoesOn no_fact (writes (with_next now.state written.segment) ∷ installed e.state ∷ []) old.turns old new
  pub survives : SurvivesBeside log now (Some written.segment)
  pub log_is : IsLog log
  pub still_log : IsLog now
  pub stands : (w : World) × Stands z new w

-- the log's device failed, and the log is closed
pub record HasClosed {D : Type 0} (z : SharedState D) (old : SeatState) (e : VersionSetState) (log : LogState) (new : SeatState) (now : LogState) : Type 0 where
  pub state : now.state ≡ record log.state { closed = true }
  pub first : now.first ≡ log.first
  pub holds : HoldsBoth z new e now now.state
  pub found : Finds z old new e.state
  pub goes : GoesOn no_fact (writes now.state ∷ installed e.state ∷ []) old.turns
      (with_participant (with_events (found_by z old new e.state found ∷ log_failed [] ∷ []) old.knows.participant) old) new
  pub rose : Rose log.wal.faults now.wal.faults
  pub survives : SurvivesBeside log now None
  pub log_is : IsLog log
  pub still_log : IsLog now
  pub stands : (w : World) × Stands z new w

abbrev pub HasPlace : {D : Type 0} → SharedState D → SeatState → VersionSetState → LogState → Result WrittenState RenewError → SeatState → LogState → Type 0
HasPlace z old e log (Ok written) new now = HasSegment z old e log written new now
HasPlace z old e log (Err LogFault) new now = HasClosed z old e log new now
HasPlace z old e log (Err other) new now = ⊥

-- ---- the edit

-- The segment waits beside the log, and the edit that names it is ready, with its table written: a table more, if it has one, with what
-- the history has up to the segment's base. The edit is covered by what the seat has seen, which is the whole history.
pub record IsTold {D : Type 0} (z : SharedState D) (s : SeatState) (e : VersionSetState) (log : LogState) (written : WrittenState) (edit : WrittenInstallState) : Type 0 where
  pub holds : HoldsBoth z s e log (with_next log.state written.segment)
  pub running : e.state.halted ≡ false
  pub unclosed : log.state.closed ≡ false
  pub nothing : log.state.pending ≡ []
  pub none_next : log.state.next ≡ None
  pub seen : s.knows.participant.seen ≡ log.state.history
  pub waits : IsWaiting log written
  pub apart : written.segment.place ≢ log.state.segment.place
  pub coupled : e.state.last.segment ≡ log.state.segment
  pub before : VersionSetState
  pub behind : IsBehind before e edit
  pub gone_is : edit.edit.asked.gone ≡ gone.Frozen
  pub flushed_is : edit.edit.asked.flushed ≡ written.segment.base
  pub covered : IsEditCovered s.knows.participant.seen (asked_for edit.edit.asked written.segment e.state.last)
  pub stands : (w : World) × Stands z s w

-- what a crash left since the edit's table was written, or there was none to write
abbrev pub SurvivesEdit : WrittenState → WrittenInstallState → VersionSetState → VersionSetState → Type 0
SurvivesEdit written edit e left = SurvivesSince e left edit (asked_for edit.edit.asked written.segment e.state.last)

-- the edit is the last one, and its segment is the one in use
pub record HasMoved {D : Type 0} (z : SharedState D) (old : SeatState) (e : VersionSetState) (log : LogState) (written : WrittenState) (edit : WrittenInstallState) (new : SeatState) (left : VersionSetState) (now : LogState) : Type 0 where
  pub state : left.state ≡ record e.state { last = asked_for edit.edit.asked written.segment e.state.last }
  pub log_table : now.state ≡ with_segment log.state written.segment
  pub device : (now.wal.moments ≡ log.wal.moments) × (now.wal.faults ≡ log.wal.faults) × (now.wal.id ≡ log.wal.id)
  pub holds : HoldsBoth z new left now now.state
  pub found : Finds z old new e.state
  pub goes : GoesOn is_of_flushed (writes now.state ∷ installed left.state ∷ []) old.turns
      (with_participant (with_events (found_by z old new e.state found ∷ event.renewed left.state.last ∷ []) old.knows.participant) old) new
  pub parts : left.parts ≡ parts_after edit.edit.asked e.parts
  pub survives : SurvivesEdit written edit e left
  pub still_edits : IsEdits left
  pub still_log : IsLog now
  pub stands : (w : World) × Stands z new w

abbrev pub LeavesSegment : {D T : Type 0} → SharedState D → SeatState → VersionSetState → LogState → WrittenState → WrittenInstallState → Result T RenewError → SeatState → VersionSetState → LogState → Type 0
LeavesSegment z old e log written edit (Ok x) new left now = HasMoved z old e log written edit new left now
LeavesSegment z old e log written edit (Err TableFault) new left now = HasStopped z (SurvivesEdit written edit) old e log (Some (asked_for edit.edit.asked written.segment e.state.last)) new left now
LeavesSegment z old e log written edit (Err other) new left now = ⊥

-- ---- all of it

-- What the renewal answers, and that both turns may be given. Where it was refused before the first call of a device, the tables and the
-- log are the very values that it had.
pub record RenewsHolding {D : Type 0} (Goes : Participant → Type 0) (z : SharedState D) (old : SeatState) (e : VersionSetState) (log : LogState) (result : Result Renewed RenewError) (new : SeatState) (left : VersionSetState) (now : LogState) : Type 0 where
  pub holds : HoldsBoth z new left now now.state
  pub nothing : now.state.pending ≡ []
  pub in_step : KnowsTables new.knows left.state.last
  pub says : RenewsFrom Goes z old e.state result new
  pub manifest : IfErr result (UnlessDeviceFault (AreLeft e left))
  pub untouched : IfErr result (BeforeDevices ((left ≡ e) × (now ≡ log)))
