-- What an opening hands out, why a log is not opened, and what is left of it.
use Rattle.std.specs.Prelude.{◌≡◌, ◌≢◌, ◌⊎◌, ℕ, zero, suc, ◌≤◌, false, List, [], ◌∷◌, drop, length, Option, None, Some, Result, Ok, Err}
use Rattle.wp_cuts.specs.Cut.{Cut}
use Rattle.wp_outside.specs.Disk.{Moment, IfKnown, Passes, added, after_sync}
use Rattle.wp_outside.specs.Faults.{Rose}
use Rattle.wp_outside.specs.declared.failed.Failed.{Failed}
use Rattle.wp_fields.specs.declared.format.Format.{Format}
use Rattle.wp_fields.specs.declared.format.Format.TheVariants.{One, Two}
use Rattle.wp_entry.specs.declared.error.RecordError.{RecordError}
use Rattle.wp_entry.specs.declared.error.RecordError.TheVariants.{Short}
use Rattle.wp_entry.specs.Base.{base_bytes}
use Rattle.wp_gatelog.specs.declared.log.AppendError.{AppendError}
use Rattle.wp_gatelog.specs.declared.log.AppendError.TheVariants as append
use Rattle.wp_gatelog.specs.Append.{Appends, FrameAppended, FrameRefused}
use Rattle.wp_gatelog.specs.Damage.{IsBadHeadAt, IsCut}
use Rattle.wp_gatelog.specs.Left.{IsAtMostSynced}
use Rattle.wp_gatelog.specs.Log.{LogState}
use Rattle.wp_gatelog.specs.Moments.{Leaves}
use Rattle.wp_gatelog.specs.Opening.{IsRead, ReadState, Survives}
use Rattle.wp_gatelog.specs.Spelling.{IsUnmadeAt, IsUpTo, SpellsAt, stamped}
use Rattle.wp_wal.specs.declared.error.WalError.{WalError}
use Rattle.wp_wal.specs.declared.error.WalError.TheVariants.{Memory, DiskFault, BadHead, BadRecord, Illegal}
use Rattle.wp_wal.specs.Spelling.{MAGIC, NEWEST, AreCut, IsInVersion, IsLogAt, base_of_cut, new_stamp, uncut}
use Rattle.wp_history.specs.History.{RoomyHistory}
use Rattle.wp_history.specs.Outline.{cut_in}
use Rattle.wp_wal.specs.Reading.{IsBadRecord, IsIllegal, IsJudged, IsTold}
use Rattle.wp_wal.specs.Wal.{WalState, LosesNothingAt, StoresCut}

-- ---- a log that was read

-- it was read of its disk, and tells this outline
pub record ReadWalState : Type 0 where
  pub log : ReadState
  pub outline : RoomyHistory

-- The log at that place was read, on a disk with these moments. It tells the cut that the disk spelled there, whose entries may come so,
-- under the id of the head; or, where no log was made, under the id that was asked for.
pub record IsReadWal (asked place : ℕ) (old : List Moment) (read : ReadWalState) : Type 0 where
  pub log : IsRead place MAGIC (new_stamp asked) old read.log
  pub told : IsTold read.outline
  pub found : IfKnown old (λ m. IsLogAt read.log.id place (cut_in read.outline) m.reads)
  pub made : IfKnown old (λ m. IsUnmadeAt place m.reads → read.log.id ≡ asked)

-- ---- an open one

-- The log at that place was opened on a disk with these moments. It stores the cut that the disk spelled there, whose entries may come so, under the id and in
-- the version of the head; or, where no log was made, under the id that was asked for, in the newest version. No byte follows the gate that ends it.
pub record IsOpenedLog (asked place : ℕ) (old : List Moment) (wal : WalState) (c : Cut) : Type 0 where
  pub stores : StoresCut wal c []
  pub clean : stores.dead ≡ []
  pub judged : IsJudged c
  pub running : wal.closed ≡ false
  pub unreserved : wal.reserved ≡ None
  pub placed : wal.segment.place ≡ place
  pub found : IfKnown old (λ m. IsLogAt wal.id place c m.reads)
  pub made : IfKnown old (λ m. IsUnmadeAt place m.reads → wal.id ≡ asked)
  pub version : IfKnown old (λ m. IsInVersion wal.format place m.reads)

-- ---- refusals

-- the bytes spell these records at that place, in this version
abbrev pub SpellsIn : ℕ → Format → List (List ℕ) → List ℕ → Type 0
SpellsIn place format records bytes = (id : ℕ) × SpellsAt place bytes MAGIC (stamped format id) records

-- record index of the log's bytes at that place is cut; or none is, and it is the first that is no record
abbrev pub IsBadLog : ℕ → List ℕ → ℕ → RecordError → Type 0
IsBadLog place bytes index why =
    (IsCut MAGIC NEWEST index (drop place bytes) × (why ≡ Short))
    ⊎ ((format : Format) × (records : List (List ℕ)) × IsUpTo NEWEST format × SpellsIn place format records bytes × IsBadRecord format place records index why)

-- the log's bytes at that place spell records, and the entry with this number is the first that is illegal
abbrev pub IsIllegalLog : ℕ → List ℕ → ℕ → Type 0
IsIllegalLog place bytes number = (format : Format) × (records : List (List ℕ)) × IsUpTo NEWEST format × SpellsIn place format records bytes × IsIllegal format records number

-- Why the log was not opened: its disk's count of faults rose, or its bytes are damaged. What they are may be unknown; that
-- the records which they spell are damaged so holds all the same. Want of memory needs no cause.
abbrev pub IsLogCause : ℕ → (rose : Type 0) → List Moment → WalError → Type 0
IsLogCause place rose moments Memory = Unit {0}
IsLogCause place rose moments DiskFault = rose
IsLogCause place rose moments BadHead = IfKnown moments (λ m. IsBadHeadAt place MAGIC NEWEST m.reads)
IsLogCause place rose moments (BadRecord index why) =
    (IfKnown moments (λ m. IsCut MAGIC NEWEST index (drop place m.reads)) × (why ≡ Short))
    ⊎ ((format : Format) × (records : List (List ℕ)) × IsUpTo NEWEST format × IfKnown moments (λ m. SpellsIn place format records m.reads) × IsBadRecord format place records index why)
IsLogCause place rose moments (Illegal number) =
    (format : Format) × (records : List (List ℕ)) × IsUpTo NEWEST format × IfKnown moments (λ m. SpellsIn place format records m.reads) × IsIllegal format records number

-- what a refusal leaves: the disk was synced, and nothing else, unless it failed
abbrev pub LeavesLog : List Moment → List Moment → WalError → Type 0
LeavesLog old new DiskFault = IsAtMostSynced old new
LeavesLog old new other = new ≡ added after_sync old

-- No log at that place was opened on a disk with these moments and so many faults. The bytes are left as they were.
pub record IsUnopenedLog (place : ℕ) (old new : List Moment) (before now : ℕ) (why : WalError) : Type 0 where
  pub cause : IsLogCause place (Rose before now) old why
  pub left : LeavesLog old new why

-- ---- the base of a new log

-- the base 0, which carries nothing, as a record
abbrev pub first_record : List ℕ
first_record = base_bytes (base_of_cut (uncut []))

-- the record that a log of this version with so many is to begin with
abbrev pub first_of : Format → ℕ → Option (List ℕ)
first_of One n = None
first_of Two zero = Some first_record
first_of Two (suc n) = None

-- What a log has that was read and judged, with the record that it is to begin with.
pub record IsJudgedLog (log : ReadState) (outline : RoomyHistory) (first : Option (List ℕ)) : Type 0 where
  pub spelled : AreCut log.format log.place log.records (cut_in outline)
  pub told : IsTold outline
  pub begins : first ≡ first_of log.format (length log.records)

-- The base record 0 is in the log, as an append puts it there; or the disk failed.
abbrev pub IsBaseAppended : LogState → LogState → Result (Unit {0}) Failed → Type 0
IsBaseAppended old new (Ok done) = Appends {E = AppendError} first_record old new (Ok done) × FrameAppended old new first_record
IsBaseAppended old new (Err failed) = Appends {T = Unit {0}} first_record old new (Err append.DiskFault) × FrameRefused old new append.DiskFault

-- A log of the second version without records gets its base record; every other one is as it was.
pub record IsBegunLog (old new : LogState) (result : Result (Unit {0}) Failed) : Type 0 where
  pub appended : old.format ≡ Two → old.count ≡ 0 → IsBaseAppended old new result
  pub one : old.format ≡ One → (new ≡ old) × (result ≡ Ok tt)
  pub some : old.count ≢ 0 → (new ≡ old) × (result ≡ Ok tt)

-- ---- what it keeps

-- While a log is opened, a crash leaves what was found, or a log of it (`SurvivesThroughAt`); or, where what was found at the front has no
-- records in the second version, that log with the base 0, which carries nothing. A new one has the id that was asked for.
abbrev pub SurvivesOpening : ℕ → ℕ → List ℕ → List ℕ → Type 0
SurvivesOpening place asked found image =
    Survives place MAGIC (new_stamp asked) found image
    ⊎ ((place ≡ 0) × (id : ℕ) × SpellsAt place found MAGIC (stamped Two id) [] × (IsUnmadeAt place found → id ≡ asked) × SpellsAt place image MAGIC (stamped Two id) (first_record ∷ []))

-- What the opening of a log keeps of the disk, whatever it answers.
pub record KeepsWal (place asked : ℕ) (old new : List Moment) (before now : ℕ) : Type 0 where
  pub survives : IfKnown old (λ m. Passes (Leaves (SurvivesOpening place asked m.reads)) old new)
  pub durable : LosesNothingAt place old new
  pub later : before ≤ now
