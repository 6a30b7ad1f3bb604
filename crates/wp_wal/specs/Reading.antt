-- Why records spell no cut whose entries may come so.
use Rattle.std.specs.Prelude.{◌≡◌, ◌≢◌, ◌⊎◌, ℕ, ◌+◌, List, [], ◌∷◌, ◌++◌, length, take, Some, Err, slice_get}
use Rattle.wp_model.specs.declared.entry.Entry.{Entry}
use Rattle.wp_model.specs.Legal.{IsLegal, IsLegalNext, IsOrderlyNext}
use Rattle.wp_cuts.specs.Cut.{Cut, carried_of}
use Rattle.wp_cuts.specs.LegalCut.{IsOrderlyCut, prepares_of}
use Rattle.wp_fields.specs.declared.format.Format.{Format}
use Rattle.wp_fields.specs.declared.format.Format.TheVariants.{One, Two}
use Rattle.wp_entry.specs.declared.error.RecordError.{RecordError}
use Rattle.wp_entry.specs.declared.error.RecordError.TheVariants.{Short}
use Rattle.wp_entry.specs.Base.{Base, IsBase, base_bytes}
use Rattle.wp_entry.specs.BaseReading.{base_at}
use Rattle.wp_entry.specs.Record.{IsRecord, record_bytes}
use Rattle.wp_entry.specs.Reading.{record_at}
use Rattle.wp_history.specs.History.{RoomyHistory}
use Rattle.wp_history.specs.Holders.{Holds}
use Rattle.wp_history.specs.declared.holders.Holders.{Holders}
use Rattle.wp_history.specs.Outline.{collision_of, cut_in}
use Rattle.wp_wal.specs.declared.error.WalError.{WalError}
use Rattle.wp_wal.specs.declared.error.WalError.TheVariants.{Memory, DiskFault, BadHead, BadRecord, Illegal}
use Rattle.wp_wal.specs.Spelling.{AreCut, IsBegun, base_of_cut, longer}

-- as far as a log tells by itself: the cut is orderly, and without a base each undo restores what its keys had
pub record IsJudged (c : Cut) : Type 0 where
  pub orderly : IsOrderlyCut c
  pub legal : c.base ≡ 0 → IsLegal c.entries

-- an outline as a log tells it: below its base there are prepares alone, and it is judged so
pub record IsTold (h : RoomyHistory) : Type 0 where
  pub full : h.entries ≡ prepares_of (cut_in h)
  pub judged : IsJudged (cut_in h)

-- ... with who has the names and the keys of what it leaves undecided
pub record IsReading (h : RoomyHistory) (holders : Holders) : Type 0 where
  pub told : IsTold h
  pub holds : Holds (carried_of h.entries) holders

-- as far as it tells, the entry may come behind the cut
abbrev pub MayCome : Cut → Entry → Type 0
MayCome c entry = IsOrderlyNext (prepares_of c) entry × (c.base ≡ 0 → IsLegalNext c.entries entry)

-- the number of the next entry
abbrev pub next_number : Cut → ℕ
next_number c = c.base + length c.entries + 1

-- ---- one record

-- the record is the entries that come behind the cut
pub record TakesRecord (format : Format) (c more : Cut) (bytes : List ℕ) : Type 0 where
  pub entries : List Entry
  pub is : IsRecord format (next_number c) entries
  pub spelling : bytes ≡ record_bytes format (next_number c) entries
  pub whole : more ≡ longer c entries

-- the bytes behind the cut are no record at their number, for this reason
pub record IsNoRecord (format : Format) (c : Cut) (bytes : List ℕ) (why : RecordError) : Type 0 where
  pub judged : IsJudged c
  pub wrong : record_at format (next_number c) bytes ≡ Err why

-- Of the entries behind the cut the one with this number is the first that may not come there.
pub record IsIllegalAmong (c : Cut) (entries : List Entry) (number : ℕ) : Type 0 where
  pub before : List Entry
  pub entry : Entry
  pub after : List Entry
  pub parts : entries ≡ before ++ entry ∷ after
  pub judged : IsJudged (longer c before)
  pub illegal : MayCome (longer c before) entry → ⊥
  pub at : number ≡ next_number (longer c before)

-- why the entry, or one of these entries, does not come behind the cut; of memory it says nothing
abbrev pub IsRefusedEntry : Cut → Entry → WalError → Type 0
IsRefusedEntry c entry Memory = Unit {0}
IsRefusedEntry c entry (Illegal number) = (number ≡ next_number c) × (MayCome c entry → ⊥)
IsRefusedEntry c entry other = ⊥

abbrev pub AreRefusedEntries : Cut → List Entry → WalError → Type 0
AreRefusedEntries c entries Memory = Unit {0}
AreRefusedEntries c entries (Illegal number) = IsIllegalAmong c entries number
AreRefusedEntries c entries other = ⊥

-- the bytes behind the cut are a record, and the entry with this number may not be where it is
pub record IsIllegalRecord (format : Format) (c : Cut) (bytes : List ℕ) (number : ℕ) : Type 0 where
  pub entries : List Entry
  pub is : IsRecord format (next_number c) entries
  pub spelling : bytes ≡ record_bytes format (next_number c) entries
  pub among : IsIllegalAmong c entries number

-- why the bytes are no record that may come behind the cut; of memory it says nothing
abbrev pub IsRefusedRecord : Format → Cut → ℕ → List ℕ → WalError → Type 0
IsRefusedRecord format c at bytes Memory = Unit {0}
IsRefusedRecord format c at bytes DiskFault = ⊥
IsRefusedRecord format c at bytes BadHead = ⊥
IsRefusedRecord format c at bytes (BadRecord index why) = (index ≡ at) × IsNoRecord format c bytes why
IsRefusedRecord format c at bytes (Illegal number) = IsIllegalRecord format c bytes number

-- ---- the base record

-- the bytes are the base of the cut, which has no entries
pub record IsBaseOf (c : Cut) (bytes : List ℕ) : Type 0 where
  pub none : c.entries ≡ []
  pub is : IsBase (base_of_cut c)
  pub spelling : bytes ≡ base_bytes (base_of_cut c)

-- the bytes are a base, and the carried prepare with this number is the first that has a name or a key of one before it
pub record IsIllegalBase (bytes : List ℕ) (number : ℕ) : Type 0 where
  pub base : Base
  pub is : IsBase base
  pub spelling : bytes ≡ base_bytes base
  pub collides : collision_of base.carried ≡ Some number

-- why the bytes are no base record; of memory it says nothing
abbrev pub IsBaseCause : List ℕ → WalError → Type 0
IsBaseCause bytes Memory = Unit {0}
IsBaseCause bytes DiskFault = ⊥
IsBaseCause bytes BadHead = ⊥
IsBaseCause bytes (BadRecord index why) = (index ≡ 0) × (base_at bytes ≡ Err why)
IsBaseCause bytes (Illegal number) = IsIllegalBase bytes number

-- So many of the first records of a log at that place spell this cut, which has no entries: the base, in the second version. Only a log
-- at place 0 has none.
pub record BeginsWith (format : Format) (place : ℕ) (records : List (List ℕ)) (n : ℕ) (c : Cut) : Type 0 where
  pub none : c.entries ≡ []
  pub spelled : AreCut format 0 (take n records) c
  pub begun : records ≢ [] → IsBegun format (take n records)
  pub there : records ≡ [] → place ≡ 0

-- ---- all records

-- The records before this one spell a cut, with its base where the version has one, and it comes next.
pub record LiesAt (format : Format) (records : List (List ℕ)) (index : ℕ) (c : Cut) (bytes : List ℕ) : Type 0 where
  pub before : AreCut format 0 (take index records) c
  pub begun : IsBegun format (take index records)
  pub there : slice_get records index ≡ Some bytes

-- the first record of the second version is no base
abbrev pub IsBadBase : Format → List (List ℕ) → ℕ → RecordError → Type 0
IsBadBase One records index why = ⊥
IsBadBase Two records index why = (index ≡ 0) × (bytes : List ℕ) × (slice_get records 0 ≡ Some bytes) × (base_at bytes ≡ Err why)

-- above place 0 there is no record
abbrev pub IsMissing : ℕ → List (List ℕ) → ℕ → RecordError → Type 0
IsMissing place records index why = (place ≢ 0) × (records ≡ []) × (index ≡ 0) × (why ≡ Short)

-- the records before this one spell a cut whose entries may come so, and it is the first that is no record at its number, or no base; or it is missing
abbrev pub IsBadRecord : Format → ℕ → List (List ℕ) → ℕ → RecordError → Type 0
IsBadRecord format place records index why =
    ((c : Cut) × (bytes : List ℕ) × LiesAt format records index c bytes × IsNoRecord format c bytes why)
    ⊎ IsBadBase format records index why
    ⊎ IsMissing place records index why

-- two of the prepares that the base carries collide
abbrev pub IsIllegalCarried : Format → List (List ℕ) → ℕ → Type 0
IsIllegalCarried One records number = ⊥
IsIllegalCarried Two records number = (bytes : List ℕ) × (slice_get records 0 ≡ Some bytes) × IsIllegalBase bytes number

-- the records up to the one of the entry with this number spell a cut, and it is the first that is illegal
abbrev pub IsIllegal : Format → List (List ℕ) → ℕ → Type 0
IsIllegal format records number =
    ((index : ℕ) × (c : Cut) × (bytes : List ℕ) × LiesAt format records index c bytes × IsIllegalRecord format c bytes number)
    ⊎ IsIllegalCarried format records number

-- why the records spell no orderly cut; of memory it says nothing
abbrev pub IsRecordCause : Format → ℕ → List (List ℕ) → WalError → Type 0
IsRecordCause format place records Memory = Unit {0}
IsRecordCause format place records DiskFault = ⊥
IsRecordCause format place records BadHead = ⊥
IsRecordCause format place records (BadRecord index why) = IsBadRecord format place records index why
IsRecordCause format place records (Illegal number) = IsIllegal format records number
