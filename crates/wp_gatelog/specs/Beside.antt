-- What becomes of the log in use while another whole log is written beside it.
use Rattle.std.specs.Prelude.{◌≡◌, ◌⊎◌, ℕ, ◌+◌, ◌<◌, ◌≤◌, false, List, [], ◌∷◌, ◌++◌, length, Result, OnOk}
use Rattle.wp_outside.specs.Disk.{Moment, IfKnown, Passes, images}
use Rattle.wp_gatelog.specs.Changes.{BringsTo}
use Rattle.wp_gatelog.specs.Durability.{HasAcknowledged, LosesNoRecordAt}
use Rattle.wp_gatelog.specs.Log.{IsAcknowledged, IsAtRest, LogState, Rests, stamp_of}
use Rattle.wp_gatelog.specs.Moments.{Leaves, LeavesFrom}
use Rattle.wp_gatelog.specs.Spelling.{Gated, IsUnmade, Stamp, log_of, Spells, SpellsAt}
use Rattle.wp_gatelog.specs.Stands.{StandsOn}

-- these bytes are a whole log: a head, records that count as acknowledged, and the closed gate that ends it
pub record IsWholeLog (magic : List ℕ) (stamp : Stamp) (records : List (List ℕ)) (bytes : List ℕ) : Type 0 where
  pub gated : List Gated
  pub acknowledged : IsAcknowledged gated records
  pub spelling : bytes ≡ log_of magic stamp 1 gated ++ 0 ∷ []

-- no log was made, or these records are spelled
abbrev pub IsNoneOrWhole : List ℕ → Stamp → List (List ℕ) → List ℕ → Type 0
IsNoneOrWhole magic stamp records bytes = IsUnmade bytes ⊎ Spells bytes magic stamp records

-- So many bytes from that place on are dead to a log that ends there and stands between these bytes: they are before it,
-- or they begin behind the gate that ends it, at the disk's end at the latest.
abbrev pub AreDead : ℕ → ℕ → ℕ → List ℕ → List ℕ → Type 0
AreDead place size end front dead = (place + size ≤ length front) ⊎ ((end < place) × (place ≤ end + 1 + length dead))

-- a log is at rest at that place, whatever is around it
pub record IsAtRestAt (place : ℕ) (magic : List ℕ) (stamp : Stamp) (end : ℕ) (records : List (List ℕ)) (m : Moment) : Type 0 where
  pub front : List ℕ
  pub dead : List ℕ
  pub begins : place ≡ length front
  pub rests : IsAtRest magic stamp end front dead records m

-- The log in use is at rest at its place; and where these bytes are a whole log, so is that one, at the place at which they
-- were written.
pub record BothRest (place : ℕ) (bytes : List ℕ) (used : ℕ) (magic : List ℕ) (stamp : Stamp) (end : ℕ) (records : List (List ℕ)) (m : Moment) : Type 0 where
  pub still : IsAtRestAt used magic stamp end records m
  pub written : (kind : List ℕ) (other : Stamp) (last : ℕ) (others : List (List ℕ)) → IsWholeLog kind other others bytes → last + 1 ≡ place + length bytes → IsAtRestAt place kind other last others m

-- a disk on which a log that ends there is at rest goes on while bytes are written that were dead to it
abbrev pub BringsBoth : {T E : Type 0} → ℕ → List ℕ → ℕ → List Moment → List Moment → Result T E → Type 0
BringsBoth place bytes end old new result = (magic : List ℕ) (stamp : Stamp) (front dead : List ℕ) (records : List (List ℕ)) → IfKnown old (IsAtRest magic stamp end front dead records) → IfKnown old (λ m. AreDead place (length bytes) end front dead)
    → BringsTo (length front) magic (λ image. SpellsAt (length front) image magic stamp records) (BothRest place bytes (length front) magic stamp end records) old new result

-- Bytes are written over dead ones of a log of this kind, which has these records, between these bytes.
pub record WritesBeside {T E : Type 0} (place : ℕ) (bytes magic front dead : List ℕ) (records : List (List ℕ)) (old new : LogState) (result : Result T E) : Type 0 where
  -- at each moment since its beginning a crash leaves the records of the log in use
  pub any_moment : Passes (Leaves (λ image. SpellsAt (length front) image magic (stamp_of old) records)) old.moments new.moments
  pub left : (image : List ℕ) → images new.moments image → SpellsAt (length front) image magic (stamp_of old) records
  pub durable : LosesNoRecordAt (length front) magic old.moments new.moments
  pub acknowledged : Passes (LeavesFrom (length front) (HasAcknowledged magic (stamp_of old) records)) old.moments new.moments
  -- Once the bytes are on the disk for good, that log is at rest as before, and what stood there stands on. What was
  -- written is at rest too, and a crash leaves it.
  pub rest : OnOk result (IfKnown new.moments (BothRest place bytes (length front) magic (stamp_of old) old.end records))
  pub stands : OnOk result (StandsOn (length front) magic old.moments new.moments)
  pub spelled : OnOk result ((kind : List ℕ) (other : Stamp) (others : List (List ℕ)) → IsWholeLog kind other others bytes → (image : List ℕ) → images new.moments image → SpellsAt place image kind other others)

-- The same of each kind of log, of all records with which it is at rest, and of all bytes around it; where the disk is known, the
-- bytes are to be dead.
abbrev pub Writes : {T E : Type 0} → ℕ → List ℕ → LogState → LogState → Result T E → Type 0
Writes place bytes old new result = (magic front dead : List ℕ) (records : List (List ℕ)) → old.closed ≡ false → Rests magic old front dead records → IfKnown old.moments (λ m. AreDead place (length bytes) old.end front dead)
    → WritesBeside place bytes magic front dead records old new result
