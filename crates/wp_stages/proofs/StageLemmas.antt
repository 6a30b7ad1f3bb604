-- What the stages of a renewal leave.
use Rattle.std.proofs.Common.{◌≡◌, ◌≢◌, inl, inr, ℕ, ◌≤◌, Bool, true, false, true≢false, List, [], ◌∷◌, ◌++◌, append_assoc, length, Option, Some, None, refl, sym, subst, ap, ◌∙◌, arith}
use Rattle.wp_model.specs.declared.entry.Entry.{Entry}
use Rattle.wp_model.specs.declared.segment.Segment.{Segment}
use Rattle.wp_cuts.specs.Cut.{Cut, IsCut, cut_at}
use Rattle.wp_outside.specs.Disk.{IfKnown, Passes}
use Rattle.wp_gatelog.specs.Moments.{Leaves}
use Rattle.wp_tableset.specs.Changes.{Asked, parts_after}
use Rattle.wp_tableset.specs.declared.gone.Gone.{Gone}
use Rattle.wp_tableset.specs.declared.gone.Gone.TheVariants as gone
use Rattle.wp_wal.specs.Segment.{NewSegmentState, WrittenState}
use Rattle.wp_wal.specs.Spelling.{IsLogAt}
use Rattle.wp_wal.specs.Wal.{LeavesCut, LosesNothingAt}
use Rattle.wp_model.specs.declared.version.Version.{Version}
use Rattle.wp_model.specs.Flushed.{InstalledEdit}
use Rattle.wp_core.specs.Conditions.{NoneNext}
use Rattle.wp_core.specs.Effects.{with_failed}
use Rattle.wp_core.specs.States.{Content, WriteState, Installed, writes, installed}
use Rattle.wp_core.specs.Views.{Event, Fact, log_stopped, renewed, tables_failed}
use Rattle.wp_core.specs.World.{Participant, World}
use Rattle.wp_model.proofs.Tests.{none_some}
use Rattle.wp_shared.specs.Calls.{with_events}
use Rattle.wp_rule.specs.Knows.{NextNamed}
use Rattle.wp_parts.specs.VersionSet.{VersionSetState, IsEdits, asked_for, with_new}
use Rattle.wp_parts.specs.Installs.{WrittenInstallState}
use Rattle.wp_parts.specs.Log.{LogState, IsLog, IsPlaceOf, IsSegmentOf, IsWaiting, with_next, with_segment}
use Rattle.wp_shared.specs.Notes.{with_participant, no_fact, GoesOn}
use Rattle.wp_shared.specs.Seats.{SharedState, SeatState, Stands}
use Rattle.wp_shared.proofs.Goes.{none_too, then, wider}
use Rattle.wp_shared.proofs.Onward.{starts_equal}
use Rattle.wp_maint.specs.Calls.{Finds, found_by, HasFault}
use Rattle.wp_maint.specs.Finding.{Remembers}
use Rattle.wp_maint.specs.Holding.{is_of_flushed}
use Rattle.wp_maint.specs.Renewal.{HoldsBoth, SurvivesBeside, segment_of}
use Rattle.wp_maint.specs.Renewing.{HasMoved, HasStopped, SurvivesEdit}
use Rattle.wp_maint.proofs.Onward.{found_later}

-- ---- the log

-- a log that is not closed has no segment beside it
pub none_waits : (t : WriteState) → NoneNext t → t.closed ≡ false → t.next ≡ None
none_waits t none open_ = elim none [
  | inl nothing ↦ nothing
  | inr closed ↦ absurd (true≢false (sym closed ∙ open_))
]

pub waits_not : (t : WriteState) (segment : Segment) → t.next ≡ None → t.next ≢ Some segment
waits_not t segment none is = none_some t.next segment none is

-- ---- the edit

-- it names the segment that waits, and flushes the whole history
pub next_named : (d : WriteState) (segment : Segment) (asked : Asked) (last : InstalledEdit) → d.closed ≡ false → segment.base ≡ length d.history → asked.flushed ≡ segment.base → NextNamed (with_next d segment) (asked_for asked segment last)
next_named d segment asked last open_ based flushed = (open_, refl, flushed ∙ based)

-- it has no fewer tables
pub more_tables : (asked : Asked) (segment : Segment) (last : InstalledEdit) → asked.gone ≡ gone.Frozen → last.tables ≤ (asked_for asked segment last).tables
more_tables asked segment last is = subst (λ (x : Gone). last.tables ≤ (with_new x asked.versions last).tables) (sym is) (by asked.versions)
  where
    by : (vs : List Version) → last.tables ≤ (with_new gone.Frozen vs last).tables
    by [] = omega arith
    by (v ∷ vs) = omega arith

-- ---- a segment is written

-- What the call says of the log in use, and of the segment that it wrote.
module _ (log now : LogState) (passed : (c : Cut) → IsCut log.state.history c → c.base ≡ log.state.segment.base → Passes (Leaves (IsLogAt log.wal.id log.state.segment.place c)) log.wal.moments now.wal.moments) (durable : LosesNothingAt log.state.segment.place log.wal.moments now.wal.moments) where
  pub beside_none : SurvivesBeside log now None
  beside_none = record { still = passed; durable = durable; beside = tt; placed = tt }

  pub beside_some : (written : WrittenState) → IsWaiting now written → written.segment.place ≢ log.state.segment.place → now.state ≡ log.state → now.wal.id ≡ log.wal.id → (segment : NewSegmentState) → IsSegmentOf log segment → IsPlaceOf log segment written.segment.place
      → SurvivesBeside log now (Some written.segment)
  beside_some written waits apart same id segment its at =
      let history : now.state.history ≡ log.state.history = ap (λ (t : WriteState). t.history) same in record {
        still = passed;
        durable = durable;
        beside = (
          waits.based ∙ ap (λ (h : List Entry). length h) history,
          apart,
          subst (λ (x : ℕ × List Entry × ℕ). IfKnown now.wal.moments (LeavesCut x.0 written.segment.place (cut_at x.1 x.2))) (λ i. (id i, history i, sym waits.based i)) waits.beside.left,
        );
        placed = (segment, its, at);
      }

-- the device is not called
pub beside_same : (log now : LogState) → now.wal.moments ≡ log.wal.moments → SurvivesBeside log now None
beside_same log now same = record {
  still = λ c cut at. ([], same, tt);
  durable = subst (λ ms. LosesNothingAt log.state.segment.place log.wal.moments ms) (sym same) (λ stamp records. ([], refl, tt));
  beside = tt;
  placed = tt;
}

-- ---- what is held

module _ {D : Type 0} (z : SharedState D) (s u : SeatState) (e left : VersionSetState) (log now : LogState) (table : WriteState) (test : Fact → Bool) (holds : HoldsBoth z s e log table) where
  -- both have other states, and are the store's still, whatever it remembers
  pub both_on : (p : Participant) (d : WriteState) → GoesOn test (writes d ∷ installed left.state ∷ []) s.turns (with_participant p s) u → left.first ≡ e.first → now.first ≡ log.first → HoldsBoth z u left now d
  both_on p d goes edits_first log_first_is = record {
    turn = record {
      same_table = ap (λ (x : SeatState). x.table) goes.same ∙ holds.turn.same_table;
      live = ap (λ (x : SeatState). x.knows.live) goes.same ∙ holds.turn.live;
      held = ap (λ (x : SeatState). x.knows.held) goes.same;
      turns = ap (λ (x : SeatState). x.turns) goes.same ∙ holds.turn.turns;
    };
    edits_of_store = holds.edits_of_store ∙ ap Some (sym edits_first);
    log_of_store = holds.log_of_store ∙ ap Some (sym log_first_is);
  }

-- ---- it found the tables, and then remembers more

module _ {D : Type 0} (z : SharedState D) (s t u : SeatState) (e : Installed) (k : Remembers z s e t) (held : List Content) (test : Fact → Bool) (events : List Event) (goes : GoesOn test held t.turns (with_participant (with_events events t.knows.participant) t) u) where
  found_seen : u.knows.participant.seen ≡ t.knows.participant.seen
  found_seen = ap (λ (x : SeatState). x.knows.participant.seen) goes.same

  pub found_then : Finds z s u e
  found_then = found_later z s t u e (starts_equal t.knows.participant.seen u.knows.participant.seen found_seen) k.found

  both : with_participant (with_events events t.knows.participant) t ≡ with_participant (with_events (found_by z s u e found_then ∷ events) s.knows.participant) s
  unfolding found_then
  both =
      ap (λ (x : SeatState). with_participant (with_events events x.knows.participant) x) k.is
      ∙ ap (λ (past : List Event). with_participant (record s.knows.participant { past = past }) s) (append_assoc s.knows.participant.past (found_by z s u e found_then ∷ []) events)

  pub goes_then_more : GoesOn test held s.turns (with_participant (with_events (found_by z s u e found_then ∷ events) s.knows.participant) s) u
  goes_then_more = subst (λ (b : SeatState). GoesOn test held s.turns b u) both (subst (λ (x : SeatState). GoesOn test held x.turns (with_participant (with_events events t.knows.participant) t) u) k.is goes)

-- ---- it remembers one thing, and then another

module _ (t u v : SeatState) (test : Fact → Bool) (first second : List Content) (turns later : List ℕ) (one two : List Event) (k : GoesOn test first turns (with_participant (with_events one t.knows.participant) t) u) where
  more_events : GoesOn test first turns (with_participant (with_events (one ++ two) t.knows.participant) t) (with_participant (with_events two u.knows.participant) u)
  more_events = record {
    same = ap (λ (x : SeatState). with_participant (with_events two x.knows.participant) x) k.same
        ∙ ap (λ (past : List Event). let x = with_participant (record t.knows.participant { past = past }) t in record x { knows = record x.knows { held = first; notes = u.knows.notes }; turns = turns }) (append_assoc t.knows.participant.past one two);
    noted = k.noted;
  }

  pub goes_two : GoesOn test second later (with_participant (with_events two u.knows.participant) u) v → GoesOn test second later (with_participant (with_events (one ++ two) t.knows.participant) t) v
  goes_two l = then test (with_participant (with_events (one ++ two) t.knows.participant) t) (with_participant (with_events two u.knows.participant) u) v first second turns later more_events l

-- ---- what a stage leaves, once the seat has found the tables

module _ {D : Type 0} (z : SharedState D) (s t u v : SeatState) (e left : VersionSetState) (log now : LogState) (d : WriteState) (holds : HoldsBoth z s e log d) (k : Remembers z s e.state t) where
  -- a device of the tables failed, and the log is stopped
  module _ (asked : Option InstalledEdit) (last : left.state.last ≡ e.state.last) (failed : left.state.failed ≡ asked)
      (first : GoesOn no_fact (writes d ∷ installed left.state ∷ []) t.turns (with_participant (with_events (tables_failed left.state.last left.state.failed ∷ []) t.knows.participant) t) u)
      (second : GoesOn no_fact (writes now.state ∷ installed left.state ∷ []) u.turns (with_participant (with_events (log_stopped ∷ []) u.knows.participant) u) v) where
    abbrev events : List Event
    events = tables_failed e.state.last asked ∷ log_stopped ∷ []

    failed_first : GoesOn no_fact (writes d ∷ installed left.state ∷ []) t.turns (with_participant (with_events (tables_failed e.state.last asked ∷ []) t.knows.participant) t) u
    failed_first = subst (λ (x : InstalledEdit × Option InstalledEdit). GoesOn no_fact (writes d ∷ installed left.state ∷ []) t.turns (with_participant (with_events (tables_failed x.0 x.1 ∷ []) t.knows.participant) t) u) (λ i. (last i, failed i)) first

    stopped_next : GoesOn no_fact (writes now.state ∷ installed left.state ∷ []) t.turns (with_participant (with_events (log_stopped ∷ []) u.knows.participant) u) v
    stopped_next = subst (λ (m : List ℕ). GoesOn no_fact (writes now.state ∷ installed left.state ∷ []) m (with_participant (with_events (log_stopped ∷ []) u.knows.participant) u) v) (ap (λ (x : SeatState). x.turns) first.same) second

    stops : GoesOn no_fact (writes now.state ∷ installed left.state ∷ []) t.turns (with_participant (with_events events t.knows.participant) t) v
    stops = goes_two t u v no_fact (writes d ∷ installed left.state ∷ []) (writes now.state ∷ installed left.state ∷ []) t.turns t.turns (tables_failed e.state.last asked ∷ []) (log_stopped ∷ []) failed_first stopped_next

    stopped_found : Finds z s v e.state
    stopped_found = found_then z s t v e.state k (writes now.state ∷ installed left.state ∷ []) no_fact events stops

    stops_since : GoesOn no_fact (writes now.state ∷ installed left.state ∷ []) s.turns (with_participant (with_events (found_by z s v e.state stopped_found ∷ events) s.knows.participant) s) v
    unfolding stopped_found
    stops_since = goes_then_more z s t v e.state k (writes now.state ∷ installed left.state ∷ []) no_fact events stops

    pub has_stopped : (Survives : VersionSetState → VersionSetState → Type 0) → left.state ≡ with_failed e.state asked → now ≡ record log { state = record log.state { next = segment_of asked; closed = true; stopped = true } }
        → left.first ≡ e.first → HasFault e left → Survives e left → IsEdits e → IsEdits left → IsLog log → IsLog now → (w : World) × Stands z v w → HasStopped z Survives s e log asked v left now
    has_stopped Survives halted stopped edits_first fault survives edits still_edits log_is still_log stands = record {
      state = halted;
      stopped = stopped;
      holds = both_on z s v e left log now d no_fact holds (with_events (found_by z s v e.state stopped_found ∷ events) s.knows.participant) now.state stops_since edits_first (ap (λ (l : LogState). l.first) stopped);
      found = stopped_found;
      goes = stops_since;
      fault = fault;
      survives = survives;
      edits = edits;
      still_edits = still_edits;
      log_is = log_is;
      still_log = still_log;
      stands = stands;
    }

  -- the edit is installed, and the log has moved
  module _ (first : GoesOn is_of_flushed (writes d ∷ installed left.state ∷ []) t.turns (with_participant (with_events (renewed left.state.last ∷ []) t.knows.participant) t) u)
      (second : GoesOn no_fact (writes now.state ∷ installed left.state ∷ []) u.turns u v) where
    moved_next : GoesOn is_of_flushed (writes now.state ∷ installed left.state ∷ []) t.turns u v
    moved_next =
        subst (λ (m : List ℕ). GoesOn is_of_flushed (writes now.state ∷ installed left.state ∷ []) m u v) (ap (λ (x : SeatState). x.turns) first.same)
        (wider no_fact u v v is_of_flushed (writes now.state ∷ installed left.state ∷ []) u.turns (none_too is_of_flushed) second)

    moves : GoesOn is_of_flushed (writes now.state ∷ installed left.state ∷ []) t.turns (with_participant (with_events (renewed left.state.last ∷ []) t.knows.participant) t) v
    moves = then is_of_flushed (with_participant (with_events (renewed left.state.last ∷ []) t.knows.participant) t) u v (writes d ∷ installed left.state ∷ []) (writes now.state ∷ installed left.state ∷ []) t.turns t.turns first moved_next

    moved_found : Finds z s v e.state
    moved_found = found_then z s t v e.state k (writes now.state ∷ installed left.state ∷ []) is_of_flushed (renewed left.state.last ∷ []) moves

    moves_since : GoesOn is_of_flushed (writes now.state ∷ installed left.state ∷ []) s.turns (with_participant (with_events (found_by z s v e.state moved_found ∷ renewed left.state.last ∷ []) s.knows.participant) s) v
    unfolding moved_found
    moves_since = goes_then_more z s t v e.state k (writes now.state ∷ installed left.state ∷ []) is_of_flushed (renewed left.state.last ∷ []) moves

    pub has_moved : (written : WrittenState) (edit : WrittenInstallState) → left.state ≡ record e.state { last = asked_for edit.edit.asked written.segment e.state.last }
        → now.state ≡ with_segment log.state written.segment → (now.wal.moments ≡ log.wal.moments) × (now.wal.faults ≡ log.wal.faults) × (now.wal.id ≡ log.wal.id) → left.first ≡ e.first → now.first ≡ log.first
        → left.parts ≡ parts_after edit.edit.asked e.parts → SurvivesEdit written edit e left → IsEdits left → IsLog now → (w : World) × Stands z v w → HasMoved z s e log written edit v left now
    has_moved written edit table log_table device edits_first log_first parts survives still_edits still_log stands = record {
      state = table;
      log_table = log_table;
      device = device;
      holds = both_on z s v e left log now d is_of_flushed holds (with_events (found_by z s v e.state moved_found ∷ renewed left.state.last ∷ []) s.knows.participant) now.state moves_since edits_first log_first;
      found = moved_found;
      goes = moves_since;
      parts = parts;
      survives = survives;
      still_edits = still_edits;
      still_log = still_log;
      stands = stands;
    }
