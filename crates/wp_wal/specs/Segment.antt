-- Another segment of the log, written beside the one in use.
use Rattle.std.specs.Prelude.{◌≡◌, ◌≢◌, ◌⊎◌, ℕ, ◌<◌, ◌≤◌, List, [], ◌∷◌, length, Result, OnOk, OnErr, IfOk}
use Rattle.wp_model.specs.declared.entry.Entry.{Entry}
use Rattle.wp_model.specs.declared.segment.Segment.{Segment}
use Rattle.wp_cuts.specs.Cut.{Cut, carried_of}
use Rattle.wp_outside.specs.Disk.{Moment, IfKnown, Passes}
use Rattle.wp_fields.specs.declared.format.Format.TheVariants.{Two}
use Rattle.wp_entry.specs.Base.{Base, IsBase, base_bytes}
use Rattle.wp_gatelog.specs.Beside.{IsAtRestAt}
use Rattle.wp_gatelog.specs.Moments.{Leaves}
use Rattle.wp_gatelog.specs.Spelling.{IsUnmade, stamped}
use Rattle.wp_wal.specs.Spelling.{MAGIC, IsLogAt, base_of_cut}
use Rattle.wp_wal.specs.Wal.{WalState, StoresCut, LeavesCut, LosesNothingAt}

-- a segment without entries that is to be written: its base, and its bytes
pub record NewSegmentState : Type 0 where
  pub base : Base
  pub bytes : List ℕ

-- the base of a history that is cut at its end
abbrev pub base_of : List Entry → Base
base_of history = record { number = length history; carried = carried_of history }

-- what a log without entries spells behind this base
abbrev pub cut_behind : Base → Cut
cut_behind base = record { base = base.number; carried = base.carried; entries = [] }

-- no log was made, or one that spells this base and no entries
abbrev pub IsNoneOrLog : ℕ → Base → List ℕ → Type 0
IsNoneOrLog id base bytes = IsUnmade bytes ⊎ IsLogAt id 0 (cut_behind base) bytes

-- a segment that was written beside the log in use: where it is, its base, and where the gate that ends it is
pub record WrittenState : Type 0 where
  pub segment : Segment
  pub end : ℕ

-- The written segment is at rest at its place with its base, and a crash leaves it.
pub record IsBeside (wal : WalState) (c : Cut) (w : WrittenState) : Type 0 where
  pub is : IsBase (base_of_cut c)
  pub based : w.segment.base ≡ c.base
  pub nothing : c.entries ≡ []
  pub apart : w.segment.place ≢ wal.segment.place
  pub rests : IfKnown wal.moments (IsAtRestAt w.segment.place MAGIC (stamped Two wal.id) w.end (base_bytes (base_of_cut c) ∷ []))
  pub left : IfKnown wal.moments (LeavesCut wal.id w.segment.place c)

-- The place of so many bytes beside a log that begins at `used`: 0 where that is their end or behind it, else one behind that log's
-- beginning.
abbrev pub IsPlaceFor : ℕ → ℕ → ℕ → Type 0
IsPlaceFor used size place = ((size ≤ used) × (place ≡ 0)) ⊎ ((used < size) × (used < place))

-- where it is not 0, it is the device's end, if the log begins before that
abbrev pub IsEndFor : ℕ → ℕ → List Moment → ℕ → Type 0
IsEndFor used size moments place = used < size → IfKnown moments (λ m. used < length m.reads → place ≡ length m.reads)

-- This segment is written beside a log that stores the cut.
pub record SurvivesBeside {E : Type 0} (c : Cut) (segment : NewSegmentState) (old new : WalState) (result : Result WrittenState E) : Type 0 where
  -- at each moment since its beginning a crash leaves the log in use
  pub any_moment : Passes (Leaves (IsLogAt old.id old.segment.place c)) old.moments new.moments
  pub durable : LosesNothingAt old.segment.place old.moments new.moments
  -- Once it is on the device for good, it is at rest, and the log in use is as it was. Its place is the device's end, but where 0 will do.
  pub beside : IfOk result (IsBeside new (cut_behind segment.base))
  pub still : OnOk result (StoresCut new c [])
  pub place : IfOk result (λ w. old.segment.place < length segment.bytes → IfKnown old.moments (λ m. w.segment.place ≡ length m.reads))
  -- After a fault the log in use is closed, with nothing that may come next.
  pub refused : OnErr result (StoresCut new c [])
