-- An open log.
use Rattle.std.specs.Prelude.{◌≡◌, ◌⊎◌, ℕ, ◌+◌, Bool, List, [], ◌∷◌, ◌++◌, length}
use Rattle.wp_outside.specs.Disk.{Moment, IfKnown, Each, synced}
use Rattle.wp_fields.specs.declared.format.Format.{Format}
use Rattle.wp_gatelog.specs.Spelling.{Gated, Stamp, stamped, IsOpen, framed, log_of, records_of, SpellsAt}

pub record LogState : Type 0 where
  pub moments : List Moment  -- its disk's
  pub faults : ℕ  -- its disk's
  pub format : Format
  pub id : ℕ
  pub count : ℕ  -- of the records, those that were appended since too
  pub end : ℕ  -- the place of the gate that ends it, from the disk's start
  pub closed : Bool  -- an append has failed

-- what its head says
abbrev pub stamp_of : LogState → Stamp
stamp_of log = stamped log.format log.id

-- the last open gate, that of the head where there is no record
abbrev pub last_gate : ℕ → List Gated → ℕ
last_gate head [] = head
last_gate head (g ∷ more) = last_gate g.gate more

-- A log's records as they are once they are acknowledged: all gates are open, the head's and the last one are 01.
-- Only those two an opening would write anew.
pub record IsAcknowledged (gated : List Gated) (records : List (List ℕ)) : Type 0 where
  pub gates_open : Each IsOpen gated
  pub last : last_gate 1 gated ≡ 1
  pub same : records ≡ records_of gated

-- the whole of the log is on the disk, between the bytes before it and the dead ones behind the gate that ends it
pub record IsAtRest (magic : List ℕ) (stamp : Stamp) (end : ℕ) (front dead : List ℕ) (records : List (List ℕ)) (m : Moment) : Type 0 where
  pub gated : List Gated
  pub acknowledged : IsAcknowledged gated records
  pub place : end ≡ length front + length (log_of magic stamp 1 gated)
  pub on_disk : m ≡ synced (front ++ (log_of magic stamp 1 gated ++ 0 ∷ dead))

-- where the log's disk is known, it is at rest with these records, between these bytes
abbrev pub Rests : List ℕ → LogState → List ℕ → List ℕ → List (List ℕ) → Type 0
Rests magic log front dead records = IfKnown log.moments (IsAtRest magic (stamp_of log) log.end front dead records)

-- front, and then a closed gate; or an open one, one whole record and a closed gate
abbrev pub Grows : List ℕ → List ℕ → List ℕ → Type 0
Grows front bytes image = (following : List ℕ) × (
    (image ≡ front ++ 0 ∷ following)
    ⊎ ((gate : ℕ) × IsOpen (record { gate = gate; bytes = bytes }) × (image ≡ front ++ gate ∷ (framed bytes ++ 0 ∷ following))))

-- a crash leaves at that place the records, or those and the new one
abbrev pub BeforeOrAfter : ℕ → List ℕ → Stamp → List (List ℕ) → List ℕ → List ℕ → Type 0
BeforeOrAfter place magic stamp records bytes image = SpellsAt place image magic stamp records ⊎ SpellsAt place image magic stamp (records ++ bytes ∷ [])
