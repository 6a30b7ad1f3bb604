-- What an append makes of the log.
use Rattle.std.specs.Prelude.{◌≡◌, ℕ, ◌+◌, true, false, List, [], ◌∷◌, ◌++◌, length, drop, Result, OnOk}
use Rattle.wp_outside.specs.Disk.{Passes, images, added, after_write, after_sync}
use Rattle.wp_outside.specs.Faults.{Rose}
use Rattle.wp_gatelog.specs.declared.log.AppendError.{AppendError}
use Rattle.wp_gatelog.specs.declared.log.AppendError.TheVariants.{DiskFault, Closed}
use Rattle.wp_gatelog.specs.Durability.{HasAcknowledged, LosesNoRecordAt}
use Rattle.wp_gatelog.specs.Log.{LogState, Rests, BeforeOrAfter, stamp_of}
use Rattle.wp_gatelog.specs.Moments.{Leaves, LeavesFrom}
use Rattle.wp_gatelog.specs.Spelling.{SpellsAt, frame_of}
use Rattle.wp_gatelog.specs.Stands.{StandsOn}

-- ---- what a crash leaves

-- A record with these bytes is appended to a log of this kind that has these records, between these bytes.
pub record AppendsAfter {T E : Type 0} (magic front dead : List ℕ) (records : List (List ℕ)) (bytes : List ℕ) (old new : LogState) (result : Result T E) : Type 0 where
  -- at each moment since its beginning a crash leaves the records before it, or those and the new one, whole
  pub any_moment : Passes (Leaves (BeforeOrAfter (length front) magic (stamp_of old) records bytes)) old.moments new.moments
  pub left : Rests magic old front dead records → (image : List ℕ) → images new.moments image → BeforeOrAfter (length front) magic (stamp_of old) records bytes image
  -- what each crash at one moment would leave acknowledged, each crash at a later moment leaves too: the records before
  -- it, all along
  pub durable : LosesNoRecordAt (length front) magic old.moments new.moments
  pub acknowledged : Passes (LeavesFrom (length front) (HasAcknowledged magic (stamp_of old) records)) old.moments new.moments
  -- once it is acknowledged, the log is at rest with the new record too, over the first dead bytes, and a crash leaves it
  pub rests : OnOk result (Rests magic new front (drop (length bytes + 9) dead) (records ++ bytes ∷ []))
  pub spelled : OnOk result ((image : List ℕ) → images new.moments image → SpellsAt (length front) image magic (stamp_of new) (records ++ bytes ∷ []))
  pub stands : OnOk result (StandsOn (length front) magic old.moments new.moments)

-- The same of each kind of log, and of all records with which it is at rest. A closed log stays as it is, at rest or not.
abbrev pub Appends : {T E : Type 0} → List ℕ → LogState → LogState → Result T E → Type 0
Appends bytes old new result = (magic front dead : List ℕ) (records : List (List ℕ)) → (old.closed ≡ false → Rests magic old front dead records) → AppendsAfter magic front dead records bytes old new result

-- ---- what is answered

-- The record with these bytes is in the log, with eight bytes of length before it and a gate after it. A known disk passed
-- four moments: the frame was written after the closed gate, a sync, that gate, a sync.
pub record FrameAppended (old new : LogState) (bytes : List ℕ) : Type 0 where
  pub was_open : old.closed ≡ false
  pub changed : new ≡ record old { moments = new.moments; count = old.count + 1; end = old.end + (length bytes + 9) }
  pub calls : new.moments ≡ added after_sync (added (after_write old.end (1 ∷ [])) (added after_sync (added (after_write (old.end + 1) (frame_of bytes)) old.moments)))

-- The disk failed, and the log is closed from now on. Or it was closed before: nothing changes, and n is the count of
-- the records that there were when an append failed.
abbrev pub FrameRefused : LogState → LogState → AppendError → Type 0
FrameRefused old new DiskFault =
    (old.closed ≡ false) × Rose old.faults new.faults × (new ≡ record old { moments = new.moments; faults = new.faults; closed = true })
FrameRefused old new (Closed n) = (old.closed ≡ true) × (n ≡ old.count) × (new ≡ old)
