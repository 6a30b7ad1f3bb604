-- The log of a store: records that spell a history, or what is behind a base of it.
use Rattle.std.specs.Prelude.{◌≡◌, ◌≢◌, ◌⊎◌, ℕ, ◌+◌, List, [], ◌∷◌, ◌++◌, length, drop, codes, ⊤}
use Rattle.wp_model.specs.declared.entry.Entry.{Entry}
use Rattle.wp_cuts.specs.Cut.{Cut}
use Rattle.wp_fields.specs.declared.format.Format.{Format}
use Rattle.wp_fields.specs.declared.format.Format.TheVariants.{One, Two}
use Rattle.wp_entry.specs.Base.{Base, IsBase, base_bytes}
use Rattle.wp_entry.specs.Record.{IsRecord, record_bytes}
use Rattle.wp_gatelog.specs.Durability.{HasAcknowledged}
use Rattle.wp_gatelog.specs.Spelling.{Gated, Stamp, stamped, HasLog, IsUnmadeAt, IsUpTo, SpellsAt}

-- the first four bytes after the head's gate
abbrev pub MAGIC : List ℕ
MAGIC = codes "WPLG"

-- the version of a new log; it is read, and so is each one before it
abbrev pub NEWEST : Format
NEWEST = Two

-- what the head of a new log with this id says
abbrev pub new_stamp : ℕ → Stamp
new_stamp id = stamped NEWEST id

-- ---- records

-- These records of this version spell these entries in order, of which the first has that number.
abbrev pub AreEntries : Format → ℕ → List (List ℕ) → List Entry → Type 0
AreEntries format first [] entries = entries ≡ []
AreEntries format first (bytes ∷ others) entries =
    (front rest : List Entry) × (entries ≡ front ++ rest) × IsRecord format first front × (bytes ≡ record_bytes format first front) × AreEntries format (first + length front) others rest

-- the base of the cut, as a log spells it
abbrev pub base_of_cut : Cut → Base
base_of_cut c = record { number = c.base; carried = c.carried }

-- a history without a base
abbrev pub uncut : List Entry → Cut
uncut history = record { base = 0; carried = []; entries = history }

-- The records of a log at that place spell the cut. In the first version it has no base, and above place 0 at least one record. In
-- the second its first record is the base; a log without one is new, at place 0, and spells nothing.
abbrev pub AreCut : Format → ℕ → List (List ℕ) → Cut → Type 0
AreCut One place records c = (c.base ≡ 0) × (c.carried ≡ []) × AreEntries One 1 records c.entries × ((place ≡ 0) ⊎ (records ≢ []))
AreCut Two place [] c = (place ≡ 0) × (c ≡ uncut [])
AreCut Two place (first ∷ others) c = IsBase (base_of_cut c) × (first ≡ base_bytes (base_of_cut c)) × AreEntries Two (c.base + 1) others c.entries

-- the records that come next are those of entries: in the second version the base is there
abbrev pub IsBegun : Format → List (List ℕ) → Type 0
IsBegun One records = ⊤
IsBegun Two records = records ≢ []

-- ---- a log

-- the cut with these entries more
abbrev pub longer : Cut → List Entry → Cut
longer c more = record c { entries = c.entries ++ more }

-- From that place on the bytes spell the cut under the id, in a version that is read.
abbrev pub IsLogAt : ℕ → ℕ → Cut → List ℕ → Type 0
IsLogAt id place c bytes =
    (format : Format) × (records : List (List ℕ)) × IsUpTo NEWEST format × SpellsAt place bytes MAGIC (stamped format id) records × AreCut format place records c

-- the head of the log at that place names this version; where no log was made, it is that of a new one
abbrev pub IsInVersion : Format → ℕ → List ℕ → Type 0
IsInVersion format place bytes =
    (IsUnmadeAt place bytes × (format ≡ NEWEST))
    ⊎ ((id : ℕ) × (head : ℕ) × (gated : List Gated) × HasLog MAGIC (stamped format id) head gated (drop place bytes))

-- they spell the cut, or it and the next entries, whole
abbrev pub IsLogOrNextAt : ℕ → ℕ → Cut → List Entry → List ℕ → Type 0
IsLogOrNextAt id place c next bytes = IsLogAt id place c bytes ⊎ IsLogAt id place (longer c next) bytes

-- From that place on the bytes begin with acknowledged records that spell the cut, in a version that is read: whatever follows, an
-- opening finds it.
abbrev pub HasAcknowledgedCut : ℕ → ℕ → Cut → List ℕ → Type 0
HasAcknowledgedCut id place c bytes =
    (format : Format) × (records : List (List ℕ)) × IsUpTo NEWEST format × HasAcknowledged MAGIC (stamped format id) records (drop place bytes) × AreCut format place records c × IsBegun format records
