-- An open log that stores a cut of the history, and what an append makes of it.
use Rattle.std.specs.Prelude.{◌≡◌, ℕ, ◌+◌, ◌≤◌, Bool, true, false, List, [], length, Option, Some, None, Result, OnOk, OnErr}
use Rattle.wp_model.specs.declared.entry.Entry.{Entry}
use Rattle.wp_model.specs.declared.segment.Segment.{Segment}
use Rattle.wp_cuts.specs.Cut.{Cut}
use Rattle.wp_outside.specs.Disk.{Moment, IfKnown, Passes}
use Rattle.wp_outside.specs.Faults.{Rose}
use Rattle.wp_fields.specs.declared.format.Format.{Format}
use Rattle.wp_entry.specs.Record.{IsRecord, last_number, record_bytes}
use Rattle.wp_gatelog.specs.declared.log.AppendError.{AppendError}
use Rattle.wp_gatelog.specs.declared.log.AppendError.TheVariants.{DiskFault, Closed}
use Rattle.wp_gatelog.specs.Log.{LogState, IsAtRest}
use Rattle.wp_gatelog.specs.Durability.{LosesNoRecordAt}
use Rattle.wp_gatelog.specs.Moments.{Leaves}
use Rattle.wp_gatelog.specs.Spelling.{IsUpTo, stamped}
use Rattle.wp_wal.specs.Spelling.{MAGIC, NEWEST, AreCut, IsBegun, IsLogAt, IsLogOrNextAt, HasAcknowledgedCut, longer}

-- ---- the log

-- a record that is ready for the next append
pub record Reserved : Type 0 where
  pub bytes : List ℕ
  pub count : ℕ  -- its entries

-- the record of this version of these entries, of which the first has that number
abbrev pub reserved_of : Format → ℕ → List Entry → Reserved
reserved_of format first entries = record { bytes = record_bytes format first entries; count = length entries }

pub record WalState : Type 0 where
  pub moments : List Moment  -- its disk's
  pub faults : ℕ  -- its disk's
  pub format : Format
  pub id : ℕ
  pub end : ℕ  -- the place of the gate that ends it
  pub closed : Bool  -- an append has failed
  pub count : ℕ  -- of its records
  pub due : ℕ  -- the number of the next entry
  pub segment : Segment  -- where it begins, and its base
  pub reserved : Option Reserved

-- a gate log in this segment whose next entry has that number
abbrev pub wal_state : LogState → Segment → ℕ → Option Reserved → WalState
wal_state log segment due reserved = record {
  moments = log.moments;
  faults = log.faults;
  format = log.format;
  id = log.id;
  end = log.end;
  closed = log.closed;
  count = log.count;
  due = due;
  segment = segment;
  reserved = reserved;
}

-- the numbers before the next one are those of entries in this version, those of the entries that are reserved too
abbrev pub HasNumbers : Format → ℕ → Option Reserved → Type 0
HasNumbers format due None = due ≤ last_number format + 1
HasNumbers format due (Some reserved) = due + reserved.count ≤ last_number format + 1

-- each image of the moment spells the cut at that place, and has it acknowledged
abbrev pub LeavesCut : ℕ → ℕ → Cut → Moment → Type 0
LeavesCut id place c = Leaves (λ image. IsLogAt id place c image × HasAcknowledgedCut id place c image)

-- each image of the moment spells the cut, or it and the next entries, whole; and has the cut acknowledged
abbrev pub LeavesCutOrNext : ℕ → ℕ → Cut → List Entry → Moment → Type 0
LeavesCutOrNext id place c next = Leaves (λ image. IsLogOrNextAt id place c next image × HasAcknowledgedCut id place c image)

-- The log stores the cut: at its place it is at rest with records that spell it, between these bytes; or, once an append has
-- failed, a crash leaves those, or those and one that spells the next entries, whole.
pub record StoresCut (wal : WalState) (c : Cut) (next : List Entry) : Type 0 where
  pub records : List (List ℕ)
  pub front : List ℕ
  pub dead : List ℕ
  pub readable : IsUpTo NEWEST wal.format
  pub begins : wal.segment.place ≡ length front
  pub spelled : AreCut wal.format wal.segment.place records c
  pub begun : IsBegun wal.format records
  pub counted : wal.count ≡ length records
  pub based : c.base ≡ wal.segment.base
  pub numbered : wal.due ≡ c.base + length c.entries + 1
  pub rests : wal.closed ≡ false → IfKnown wal.moments (IsAtRest MAGIC (stamped wal.format wal.id) wal.end front dead records)
  pub left : wal.closed ≡ true → IfKnown wal.moments (LeavesCutOrNext wal.id wal.segment.place c next)

-- ---- appending

-- The log stores the cut, and the record of the next entries is reserved.
pub record IsReserved (wal : WalState) (c : Cut) (next : List Entry) : Type 0 where
  pub stores : StoresCut wal c []
  pub running : wal.closed ≡ false
  pub is : IsRecord wal.format wal.due next
  pub reserved : wal.reserved ≡ Some (reserved_of wal.format wal.due next)

-- The record of these entries, which is reserved, is appended to a log that stores the cut.
pub record AppendsNext {T E : Type 0} (c : Cut) (next : List Entry) (old new : WalState) (result : Result T E) : Type 0 where
  -- at each moment since its beginning a crash leaves the cut, or it and the next entries, whole
  pub any_moment : Passes (Leaves (IsLogOrNextAt old.id old.segment.place c next)) old.moments new.moments
  -- the cut is acknowledged all along
  pub acknowledged : Passes (Leaves (HasAcknowledgedCut old.id old.segment.place c)) old.moments new.moments
  -- once it is acknowledged, a crash leaves the next entries too; and after a fault still one of the two
  pub stores : OnOk result (StoresCut new (longer c next) [])
  pub refused : OnErr result (StoresCut new c next)

-- the record that was reserved is in the log: with nine bytes of its frame, the length and a gate
pub record Appended (old new : WalState) (added : Reserved) : Type 0 where
  pub was_open : old.closed ≡ false
  pub changed : new ≡ record old {
    moments = new.moments;
    end = old.end + length added.bytes + 9;
    count = old.count + 1;
    due = old.due + added.count;
    reserved = None;
  }

-- The disk failed, and the log is closed from now on. Or it was closed before: nothing changes, and n is the count of
-- its records.
abbrev pub Refuses : WalState → WalState → AppendError → Type 0
Refuses old new DiskFault =
    (old.closed ≡ false) × Rose old.faults new.faults × (new ≡ record old { moments = new.moments; faults = new.faults; closed = true; reserved = None })
Refuses old new (Closed n) = (old.closed ≡ true) × (n ≡ old.count) × (new ≡ record old { reserved = None })

-- Records that each crash at one moment would leave acknowledged in the log at that place, each crash at a later moment leaves so
-- too.
abbrev pub LosesNothingAt : ℕ → List Moment → List Moment → Type 0
LosesNothingAt place = LosesNoRecordAt place MAGIC
