-- What an opening finds, and what it leaves.
use Rattle.std.specs.Prelude.{◌≡◌, ◌≢◌, ◌⊎◌, ℕ, zero, suc, ◌≤◌, false, List, [], ◌∷◌, ◌++◌, length, take, drop, ⊤}
use Rattle.wp_outside.specs.Disk.{Moment, IfKnown, Passes, images, added, after_sync}
use Rattle.wp_gatelog.specs.declared.error.LogError.{LogError}
use Rattle.wp_gatelog.specs.declared.error.LogError.TheVariants.{Memory, DiskFault, BadHead, Cut}
use Rattle.wp_fields.specs.declared.format.Format.{Format}
use Rattle.wp_gatelog.specs.Damage.{IsBadHeadAt, IsCut}
use Rattle.wp_gatelog.specs.Durability.{LosesNoRecordAt}
use Rattle.wp_gatelog.specs.Errors.{FaultRose}
use Rattle.wp_gatelog.specs.Left.{LeavesSynced}
use Rattle.wp_gatelog.specs.Log.{LogState, Rests, stamp_of}
use Rattle.wp_gatelog.specs.Repair.{IsRepaired}
use Rattle.wp_gatelog.specs.Moments.{Leaves}
use Rattle.wp_gatelog.specs.Spelling.{Gated, Stamp, IsUnmadeAt, IsUpTo, HasLog, Spells, SpellsAt, records_of, stamped}
use Rattle.wp_gatelog.specs.Stands.{StandsOn}

-- At that place the bytes spell these records under this version and id: those that were asked for, where no log was made,
-- and no later version in any case.
pub record IsFound (place : ℕ) (magic : List ℕ) (asked : Stamp) (bytes : List ℕ) (stamp : Stamp) (records : List (List ℕ)) : Type 0 where
  pub spelled : SpellsAt place bytes magic stamp records
  pub unmade : IsUnmadeAt place bytes → stamp ≡ asked
  pub readable : IsUpTo asked.format stamp.format

-- The bytes are refused at that place so; of memory and of the disk they say nothing. A cut record's refusal has the id in
-- the head.
abbrev pub IsRefused : ℕ → List ℕ → Format → List ℕ → LogError → Type 0
IsRefused place magic newest bytes Memory = ⊤
IsRefused place magic newest bytes DiskFault = ⊤
IsRefused place magic newest bytes BadHead = IsBadHeadAt place magic newest bytes
IsRefused place magic newest bytes (Cut index id) = (cut : IsCut magic newest index (drop place bytes)) × (id ≡ cut.stamp.id)

-- the refusal left the disk as it was, but where the disk failed
abbrev pub IsUntouched : List Moment → List Moment → LogError → Type 0
IsUntouched old new Memory = new ≡ old
IsUntouched old new DiskFault = ⊤
IsUntouched old new BadHead = new ≡ old
IsUntouched old new (Cut index id) = new ≡ old

-- While a log is repaired, a crash leaves its records. Where its head's gate was not 01, it may leave that gate closed, and so
-- none, and where the last record's was not, it may leave all but that record.
abbrev pub HasMost : ℕ → List ℕ → Stamp → ℕ → List Gated → List ℕ → Type 0
HasMost place magic stamp head gated image =
    SpellsAt place image magic stamp (records_of gated)
    ⊎ ((head ≢ 1) × Spells (drop place image) magic stamp [])
    ⊎ ((before : List Gated) × (last : Gated) × (gated ≡ before ++ last ∷ []) × (last.gate ≢ 1) × SpellsAt place image magic stamp (records_of before))

-- While a log is opened, a crash leaves what was found; or, where no log was made, one without records; or a log that is
-- repaired.
abbrev pub Survives : ℕ → List ℕ → Stamp → List ℕ → List ℕ → Type 0
Survives place magic asked found image =
    (image ≡ found)
    ⊎ (IsUnmadeAt place found × SpellsAt place image magic asked [])
    ⊎ ((stamp : Stamp) × (head : ℕ) × (gated : List Gated) × HasLog magic stamp head gated (drop place found) × HasMost place magic stamp head gated image)

-- the same, byte by byte
abbrev pub Repairs : ℕ → List ℕ → Stamp → List ℕ → List ℕ → Type 0
Repairs place magic asked found image =
    (image ≡ found)
    ⊎ (IsUnmadeAt place found × SpellsAt place image magic asked [])
    ⊎ ((stamp : Stamp) × (head : ℕ) × (gated : List Gated) × HasLog magic stamp head gated (drop place found) × IsRepaired magic stamp head gated (drop place image))

-- at each moment of the opening of a log at that place a crash leaves what survives it
abbrev pub SurvivesThroughAt : ℕ → List ℕ → Stamp → List Moment → List Moment → Type 0
SurvivesThroughAt place magic asked old new = IfKnown old (λ m. Passes (Leaves (Survives place magic asked m.reads)) old new)

-- the same of a log at place 0
abbrev pub SurvivesThrough : List ℕ → Stamp → List Moment → List Moment → Type 0
SurvivesThrough = SurvivesThroughAt 0

-- ---- what was read

-- a log that was read, and is as it was found
pub record ReadState : Type 0 where
  pub moments : List Moment  -- its disk's
  pub faults : ℕ  -- its disk's
  pub place : ℕ
  pub magic : List ℕ
  pub format : Format
  pub id : ℕ
  pub records : List (List ℕ)

-- what its head says, or is to say where none was made
abbrev pub read_stamp : ReadState → Stamp
read_stamp log = stamped log.format log.id

-- The log at that place was read, on a disk with these moments, which was synced and is as it was. Its records are those that the disk
-- spelled.
pub record IsRead (place : ℕ) (magic : List ℕ) (asked : Stamp) (old : List Moment) (log : ReadState) : Type 0 where
  pub placed : log.place ≡ place
  pub kind : log.magic ≡ magic
  pub synced : log.moments ≡ added after_sync old
  pub found : IfKnown old (λ m. IsFound place magic asked m.reads (read_stamp log) log.records)
  pub readable : IsUpTo asked.format log.format
  pub durable : LosesNoRecordAt place magic old log.moments

-- the open log has what was read of it
pub record HasAsRead (read : ReadState) (log : LogState) : Type 0 where
  pub format : log.format ≡ read.format
  pub id : log.id ≡ read.id
  pub counted : log.count ≡ length read.records
  pub running : log.closed ≡ false
  pub unfailed : log.faults ≡ read.faults

-- No log at that place was read, on a disk with these moments and so many faults: its bytes are as the refusal says; or the disk failed, or
-- memory ran out.
pub record IsUnread (place : ℕ) (magic : List ℕ) (newest : Format) (old new : List Moment) (before now : ℕ) (why : LogError) : Type 0 where
  pub refused : IfKnown old (λ m. IsRefused place magic newest m.reads why)
  pub left : LeavesSynced old new why
  pub fault : FaultRose before now why

-- ---- the whole

-- the bytes before that place
abbrev pub front_at : ℕ → List Moment → List ℕ
front_at zero moments = []
front_at (suc place) [] = []
front_at (suc place) (m ∷ past) = take (suc place) m.reads

-- The log at that place was opened on a disk with these moments. Its records are those that the disk spelled, and a crash from now on
-- leaves them. What stood there stands on, and so do the bytes before it.
pub record IsOpened (place : ℕ) (magic : List ℕ) (asked : Stamp) (old : List Moment) (log : LogState) (records : List (List ℕ)) : Type 0 where
  pub found : IfKnown old (λ m. IsFound place magic asked m.reads (stamp_of log) records)
  pub rests : Rests magic log (front_at place old) [] records
  pub spelled : (image : List ℕ) → images log.moments image → SpellsAt place image magic (stamp_of log) records
  pub stands : StandsOn place magic old log.moments
  pub counted : log.count ≡ length records
  pub running : log.closed ≡ false
  pub readable : IsUpTo asked.format log.format
  pub unknown : old ≡ [] → log.moments ≡ []  -- a disk that does not tell its moments goes on so

-- No log at that place was opened on a disk with these moments and so many faults: its bytes are as the refusal says, and they are left
-- as they were; or the disk failed, or memory ran out.
pub record IsUnopened (place : ℕ) (magic : List ℕ) (newest : Format) (old new : List Moment) (before now : ℕ) (why : LogError) : Type 0 where
  pub refused : IfKnown old (λ m. IsRefused place magic newest m.reads why)
  pub untouched : IsUntouched (added after_sync old) new why
  pub fault : FaultRose before now why

-- What the opening of a log at that place keeps of the disk, whatever it answers.
pub record KeepsLogAt (place : ℕ) (magic : List ℕ) (asked : Stamp) (old new : List Moment) (before now : ℕ) : Type 0 where
  -- At each moment since its beginning a crash leaves the bytes as they were found, or a log of their records; but where
  -- the head's gate was not 01 it may leave none, and where the last record's was not, all but that one.
  pub survives : SurvivesThroughAt place magic asked old new
  -- what each crash at one moment would leave acknowledged, each crash at a later moment leaves too
  pub durable : LosesNoRecordAt place magic old new
  -- no fault is forgotten
  pub later : before ≤ now

-- the same of a log at place 0
abbrev pub KeepsLog : List ℕ → Stamp → List Moment → List Moment → ℕ → ℕ → Type 0
KeepsLog = KeepsLogAt 0
