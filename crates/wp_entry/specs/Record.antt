-- The records of the log: the one spelling of each in each version of the format, which differ in how wide numbers are.
use Rattle.std.specs.Prelude.{◌≡◌, ℕ, ◌+◌, ◌<◌, ◌≤◌, Bool, true, ◌&&◌, List, [], ◌∷◌, ◌++◌, length}
use Rattle.std.specs.Int.{to_be_bytes}
use Rattle.std.specs.List.{flat_map, list_all, AllByRecursion}
use Rattle.wp_model.specs.declared.entry.Entry.{Entry}
use Rattle.wp_model.specs.declared.entry.Entry.TheVariants.{Write, Prepare, Commit, Undo, Close}
use Rattle.wp_model.specs.Record.{IsOneRecord}
use Rattle.wp_model.specs.Word.{is_name}
use Rattle.wp_fields.specs.declared.format.Format.{Format}
use Rattle.wp_fields.specs.declared.format.Format.TheVariants.{One, Two}
use Rattle.wp_fields.specs.Format.{number_width}
use Rattle.wp_encoding.specs.Encoding.{word_bytes, batch_bytes, are_changes}

-- ---- numbers

-- The last number that an entry may have: the last one that fits in four bytes, or 2^56 - 1, which is less than eight
-- bytes have room for.
abbrev pub last_number : Format → ℕ
last_number One = 4294967295
last_number Two = 72057594037927935

-- ---- the spelling

-- the number that a Commit names
abbrev pub named_bytes : Format → Entry → List ℕ
named_bytes format (Commit p) = to_be_bytes (number_width format) p
named_bytes format other = []

-- One byte kind, and what the entries of that kind hold: 01 and the batch of a Write; 02, the name and the batch of a
-- Prepare; 03 and the number that a Commit names; 04, the number that an Undo and its Close name, and the Undo's batch;
-- 06, one byte count of several Commits, and the numbers that these name.
abbrev pub entries_bytes : Format → List Entry → List ℕ
entries_bytes format (Write batch ∷ others) = 1 ∷ batch_bytes batch
entries_bytes format (Prepare name batch ∷ others) = 2 ∷ (word_bytes name ++ batch_bytes batch)
entries_bytes format (Commit p ∷ Commit q ∷ others) = 6 ∷ length (Commit p ∷ Commit q ∷ others) ∷ flat_map (named_bytes format) (Commit p ∷ Commit q ∷ others)
entries_bytes format (Commit p ∷ others) = 3 ∷ to_be_bytes (number_width format) p
entries_bytes format (Undo p batch ∷ others) = 4 ∷ (to_be_bytes (number_width format) p ++ batch_bytes batch)
entries_bytes format (Close p ∷ others) = []
entries_bytes format [] = []

-- A record: the number of its first entry, and its entries.
abbrev pub record_bytes : Format → ℕ → List Entry → List ℕ
record_bytes format first entries = to_be_bytes (number_width format) first ++ entries_bytes format entries

-- ---- what has a spelling

-- what it holds is in range
abbrev pub is_entry : Entry → Bool
is_entry (Write batch) = are_changes batch
is_entry (Prepare name batch) = is_name name && are_changes batch
is_entry (Commit p) = true
is_entry (Undo p batch) = are_changes batch
is_entry (Close p) = true

-- the number of an entry before the one with that number
pub record IsEarlier (first p : ℕ) : Type 0 where
  pub from : 1 ≤ p
  pub below : p < first

-- what an entry names has a number before that one
abbrev pub NamesEarlier : ℕ → Entry → Type 0
NamesEarlier first (Commit p) = IsEarlier first p
NamesEarlier first (Undo p batch) = IsEarlier first p
NamesEarlier first (Close p) = IsEarlier first p
NamesEarlier first other = Unit {0}

-- These entries share one record in a log, where the first has that number. All numbers are numbers of entries in this
-- version of the format, and what is named comes before the first.
pub record FormRecord (format : Format) (first : ℕ) (entries : List Entry) : Type 0 where
  pub one : IsOneRecord entries
  pub earlier : AllByRecursion (NamesEarlier first) entries
  pub numbered : first + length entries ≤ last_number format + 1

-- The entries are a record, and what they hold is in range.
pub record IsRecord (format : Format) (first : ℕ) (entries : List Entry) : Type 0 where
  pub form : FormRecord format first entries
  pub in_range : list_all is_entry entries ≡ true
