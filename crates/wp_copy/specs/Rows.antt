-- The rows of a store at a snapshot, given one by one.
use Rattle.std.specs.Prelude.{◌≡◌, ℕ, List, codes}
use Rattle.std.proofs.Math.ListN.{replicate}
use Rattle.wp_model.specs.declared.row.Row.{Row}
use Rattle.wp_model.specs.Rows.{Pair}
use Rattle.wp_core.specs.Lists.{IsIn}
use Rattle.wp_core.specs.Reading.{Registration}
use Rattle.wp_shared.specs.Calls.{Continues}
use Rattle.wp_shared.specs.Seats.{SharedState, SeatState, IsFree, participant_of, seen_by}
use Rattle.wp_scan.specs.Scan.{ScanState, left_of, IsShownAt}

-- ---- all keys

-- the least key, and the greatest
abbrev pub least : List ℕ
least = codes "!"

abbrev pub greatest : List ℕ
greatest = replicate 64 126

-- ---- rows

-- the store, the seat that reads, its snapshot, and how far the scan has come
pub record AllRowsState (D : Type 0) : Type 0 where
  pub store : SharedState D
  pub seat : SeatState
  pub snapshot : Registration
  pub scan : ScanState

-- the seat is free, and the snapshot is its own
abbrev pub MayRead : {D : Type 0} → AllRowsState D → Type 0
MayRead rows = IsFree rows.store.table rows.seat × IsIn rows.snapshot rows.seat.knows.participant.registered

-- the rows that are left, of what the seat has seen
abbrev pub rows_left : {D : Type 0} → AllRowsState D → List Pair
rows_left rows = left_of (seen_by rows.seat) rows.snapshot.number rows.scan

-- a row is there at the snapshot
abbrev pub IsRowIn : {D : Type 0} → AllRowsState D → Row → Type 0
IsRowIn rows row = IsShownAt (seen_by rows.seat) rows.snapshot.number row

-- They are of the same store and snapshot. The seat is the same participant, which has seen no more, and goes on where it is free.
pub record AreRowsSince {D : Type 0} (old new : AllRowsState D) : Type 0 where
  pub store : new.store ≡ old.store
  pub snapshot : new.snapshot ≡ old.snapshot
  pub same : participant_of new.seat ≡ participant_of old.seat
  pub continues : IsFree old.store.table old.seat → Continues old.store old.seat new.seat (participant_of old.seat)
