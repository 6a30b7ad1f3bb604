-- The value behind the write turn: the history with its pending record, and the log.
use Rattle.std.specs.Prelude.{◌≡◌, ◌≢◌, ◌⊎◌, ℕ, ◌+◌, ◌<◌, ◌≤◌, ◌==◌, if◌then◌else◌, Bool, true, false, List, [], ◌∷◌, ◌++◌, length, Option, None, Some}
use Rattle.wp_model.specs.declared.entry.Entry.{Entry}
use Rattle.wp_model.specs.declared.segment.Segment.{Segment}
use Rattle.wp_model.specs.Legal.{IsLegal, undone_last}
use Rattle.wp_cuts.specs.Cut.{Cut, IsCut, cut_at}
use Rattle.wp_outside.specs.Disk.{IfKnown, Passes}
use Rattle.wp_outside.specs.Faults.{Rose}
use Rattle.wp_fields.specs.declared.format.Format.{Format}
use Rattle.wp_fields.specs.declared.format.Format.TheVariants.{Two}
use Rattle.wp_entry.specs.Base.{IsBase, base_bytes}
use Rattle.wp_entry.specs.Record.{IsRecord}
use Rattle.wp_gatelog.specs.Beside.{IsWholeLog}
use Rattle.wp_gatelog.specs.Moments.{Leaves}
use Rattle.wp_gatelog.specs.Spelling.{stamped}
use Rattle.wp_wal.specs.Segment.{NewSegmentState, WrittenState, IsBeside, base_of}
use Rattle.wp_wal.specs.Spelling.{MAGIC, IsLogAt, IsLogOrNextAt}
use Rattle.wp_wal.specs.Wal.{WalState, LeavesCut, LosesNothingAt, StoresCut, IsReserved}
use Rattle.wp_core.specs.Conditions.{NoneNext}
use Rattle.wp_core.specs.States.{WriteState}

-- The state of the machine that it is, its log now, and its log as it was opened. The log may be closed while its device may be called
-- still, where it was stopped behind a failure of the tables' devices.
pub record LogState : Type 0 where
  pub state : WriteState
  pub wal : WalState
  pub first : WalState

-- what the log spells: the pending record too, once that is logged
abbrev pub spelled : Bool → List Entry → List Entry → List Entry
spelled false history pending = history
spelled true history pending = history ++ pending

-- how it is closed, by a stop or not, what record failed, and which segment stands beside the one in use
pub record Ending : Type 0 where
  pub closed : Bool
  pub stopped : Bool
  pub failed : List Entry
  pub next : Option Segment

abbrev pub log_state : WalState → WalState → List Entry → List Entry → Bool → Ending → LogState
log_state wal first history pending logged ending = record {
  state = record { history = history; pending = pending; logged = logged; log = spelled logged history pending; closed = ending.closed; stopped = ending.stopped; failed = ending.failed; segment = wal.segment; next = ending.next };
  wal = wal;
  first = first;
}

abbrev pub open_ending : Ending
open_ending = record { closed = false; stopped = false; failed = []; next = None }

-- once the pending record is in the log, and once its append has failed
abbrev pub with_logged : WriteState → WriteState
with_logged t = record t { logged = true; log = t.log ++ t.pending }

abbrev pub with_lost : WriteState → WriteState
with_lost t = record t { closed = true; failed = t.pending }

-- in this segment the bytes have the log of the entries, cut at its base
abbrev pub spells : LogState → Segment → List ℕ → List Entry → Type 0
spells s segment image entries = (c : Cut) × IsLogAt s.wal.id segment.place c image × IsCut entries c × (c.base ≡ segment.base)

-- the version of the log as it was opened so, once its segment has this base: a renewal alone raises it, and makes the log anew
abbrev pub format_at : WalState → ℕ → Format
format_at first base = if base == first.segment.base then first.format else Two

-- ---- what is so of it

-- The log stores what the state says that it spells, cut at the base of its segment; once an append has failed, that, or that and the
-- failed record, whole. No segment waits beside the one in use: there is none, or the log is closed, and then each crash leaves the
-- history in that one too, cut at its end. The log has the id that it was opened with, its version too until its base was raised, and a
-- base no lower. Since then its device failed just where it is closed and was not stopped; and what was acknowledged then is so still, as
-- long as the log is in the segment of then.
pub record IsLog (s : LogState) : Type 0 where
  pub cut : Cut
  pub is_cut : IsCut s.state.log cut
  pub segment : s.state.segment ≡ s.wal.segment
  pub stores : StoresCut s.wal cut s.state.failed
  pub legal : IsLegal (s.state.history ++ s.state.pending)
  pub none_failed : s.state.closed ≡ false → s.state.failed ≡ []
  pub whole : (s.state.failed ≡ []) ⊎ ((s.wal.closed ≡ true) × IsRecord s.wal.format (length s.state.log + 1) s.state.failed)
  pub none_waits : NoneNext s.state
  pub beside : (segment : Segment) → s.state.next ≡ Some segment
      → (s.state.pending ≡ []) × (segment.base ≡ length s.state.history) × (undone_last s.state.history ≡ None) × IfKnown s.wal.moments (LeavesCut s.wal.id segment.place (cut_at s.state.history segment.base))
  pub id : s.wal.id ≡ s.first.id
  pub form : s.wal.format ≡ format_at s.first s.wal.segment.base
  pub risen : s.first.segment.base ≤ s.wal.segment.base
  pub later : s.first.faults ≤ s.wal.faults
  pub shut : s.wal.closed ≡ true → s.state.closed ≡ true
  pub by_fault : s.state.closed ≡ true → s.state.stopped ≡ false → s.wal.closed ≡ true
  pub cause : s.wal.closed ≡ true → Rose s.first.faults s.wal.faults
  pub unfailed : s.wal.closed ≡ false → s.wal.faults ≡ s.first.faults
  pub ended : s.state.stopped ≡ true → s.state.closed ≡ true
  pub unclosed : s.state.stopped ≡ true → s.wal.closed ≡ false
  pub durable : s.wal.segment ≡ s.first.segment → LosesNothingAt s.first.segment.place s.first.moments s.wal.moments

-- What is pending takes no memory any more: its record is ready for the log until it is logged, and the history has room
-- for its entries.
pub record IsReady (s : LogState) (cut : Cut) (room : ℕ) : Type 0 where
  pub reserved : s.state.pending ≢ [] → s.state.logged ≡ false → s.state.closed ≡ false → IsReserved s.wal cut s.state.pending
  pub fits : length s.state.pending ≤ room

-- how the value is kept: as a log that is ready, with the history from the base on at which it was opened
pub record IsKept (s : LogState) (base room : ℕ) : Type 0 where
  pub opened : base ≡ s.first.segment.base
  pub log : IsLog s
  pub ready : IsReady s log.cut room

-- ---- while its device is called

-- at each moment between the two a crash leaves the history in the segment in use
abbrev pub LeavesHistory : LogState → LogState → Type 0
LeavesHistory old new = (c : Cut) → IsCut old.state.history c → c.base ≡ old.state.segment.base → Passes (Leaves (IsLogAt old.wal.id old.state.segment.place c)) old.wal.moments new.wal.moments

-- ... or that and the pending record, whole
abbrev pub LeavesHistoryOrNext : LogState → LogState → Type 0
LeavesHistoryOrNext old new =
    (c : Cut) → IsCut old.state.history c → c.base ≡ old.state.segment.base → Passes (Leaves (IsLogOrNextAt old.wal.id old.state.segment.place c old.state.pending)) old.wal.moments new.wal.moments

-- the log has one record more
abbrev pub HasOneMore : LogState → LogState → Type 0
HasOneMore old new = new.wal.count ≡ old.wal.count + 1

-- what each crash at one moment would leave acknowledged there, each crash at a later moment leaves too
abbrev pub KeepsAcknowledged : LogState → LogState → Type 0
KeepsAcknowledged old new = LosesNothingAt old.state.segment.place old.wal.moments new.wal.moments

-- ---- a segment beside the one in use

-- one may be written that begins where the history ends: that is behind the base, and no undo; the log takes entries, and none is pending
abbrev pub MayRenew : WriteState → Type 0
MayRenew t = (t.closed ≡ false) × (t.pending ≡ []) × (t.segment.base < length t.history) × (undone_last t.history ≡ None)

-- the bytes of a segment that begins where the history ends, as they are to be written
abbrev pub IsSegmentOf : LogState → NewSegmentState → Type 0
IsSegmentOf s new = (new.base ≡ base_of s.state.history) × IsBase new.base × IsWholeLog MAGIC (stamped Two s.wal.id) (base_bytes new.base ∷ []) new.bytes

-- where they go: to the device's beginning, if the segment in use begins at their end or behind it; else to the device's end
abbrev pub IsPlaceOf : LogState → NewSegmentState → ℕ → Type 0
IsPlaceOf s new place = (length new.bytes ≤ s.state.segment.place → place ≡ 0) × (s.state.segment.place < length new.bytes → IfKnown s.wal.moments (λ m. place ≡ length m.reads))

-- the state once this segment waits beside the one in use
abbrev pub with_next : WriteState → Segment → WriteState
with_next t segment = record t { next = Some segment }

-- ... and once it is the one in use
abbrev pub with_segment : WriteState → Segment → WriteState
with_segment t segment = record t { segment = segment; next = None }

-- The segment was written beside the log: it has the history, cut at its end, which is behind the log's base and is no undo, and stands
-- for good.
pub record IsWaiting (s : LogState) (w : WrittenState) : Type 0 where
  pub based : w.segment.base ≡ length s.state.history
  pub whole : undone_last s.state.history ≡ None
  pub below : s.state.segment.base < w.segment.base
  pub beside : IsBeside s.wal (cut_at s.state.history (length s.state.history)) w

-- ... apart from the one that was in use
abbrev pub WaitsApart : LogState → LogState → WrittenState → Type 0
WaitsApart old new w = IsWaiting new w × (w.segment.place ≢ old.state.segment.place)
