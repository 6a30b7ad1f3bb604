-- Where in the bytes the first fault of a record is, and which it is.
use Rattle.std.specs.Prelude.{◌≡◌, ◌≢◌, ℕ, ◌+◌, ◌<◌, ◌≤◌, true, List, [], ◌∷◌, ◌++◌, length, ◌⊎◌}
use Rattle.std.specs.Int.{byte_len, to_be_bytes}
use Rattle.std.specs.List.{flat_map, AllByRecursion}
use Rattle.wp_model.specs.declared.word.TheConstants.{MOST_NAME_BYTES}
use Rattle.wp_model.specs.declared.entry.Entry.{Entry}
use Rattle.wp_model.specs.declared.entry.TheConstants.{MOST_COMMITS}
use Rattle.wp_model.specs.Record.{AreCommits}
use Rattle.wp_model.specs.Word.{is_name}
use Rattle.wp_fields.specs.declared.format.Format.{Format}
use Rattle.wp_fields.specs.Format.{number_width, number_end}
use Rattle.wp_encoding.specs.declared.error.EncodingError.{EncodingError}
use Rattle.wp_encoding.specs.declared.error.EncodingError.TheVariants as encoding
use Rattle.wp_encoding.specs.Encoding.{word_bytes}
use Rattle.wp_encoding.specs.Faults.{IsWordFault, IsBatchFault}
use Rattle.wp_entry.specs.declared.error.RecordError.{RecordError}
use Rattle.wp_entry.specs.declared.error.RecordError.TheVariants.{Memory, Short, BadNumber, BadKind, BadWord, Extra}
use Rattle.wp_entry.specs.Record.{last_number, named_bytes, record_bytes, IsEarlier, NamesEarlier, IsRecord}

-- the number is there, and bytes after it
pub record HasNumberField (format : Format) (bytes : List ℕ) (number : ℕ) (rest : List ℕ) : Type 0 where
  pub parts : bytes ≡ to_be_bytes (number_width format) number ++ rest
  pub small : number < number_end format

-- the number that is due is there, which an entry may have, and bytes after it
pub record HasDue (format : Format) (bytes : List ℕ) (due : ℕ) (rest : List ℕ) : Type 0 where
  pub parts : bytes ≡ to_be_bytes (number_width format) due ++ rest
  pub small : due ≤ last_number format

-- a name is there, and bytes after it
pub record HasName (bytes name rest : List ℕ) : Type 0 where
  pub parts : bytes ≡ word_bytes name ++ rest
  pub in_range : is_name name ≡ true

-- the number of an earlier entry: fewer bytes are there than it takes, or no earlier entry has the number
abbrev pub IsEarlierFault : Format → ℕ → List ℕ → EncodingError → Type 0
IsEarlierFault format due bytes encoding.Short = length bytes < byte_len (number_width format)
IsEarlierFault format due bytes encoding.Word = (p : ℕ) × ((rest : List ℕ) × HasNumberField format bytes p rest × ((p ≡ 0) ⊎ (due ≤ p)))
IsEarlierFault format due bytes other = ⊥

-- So many Commits are a group whose first has the number that is due, and the last has a number too.
pub record IsCount (format : Format) (due count : ℕ) : Type 0 where
  pub from : 2 ≤ count
  pub most : count ≤ MOST_COMMITS
  pub numbered : due + count ≤ last_number format + 1

-- so many are none: too few, too many, or there is no number for the last
abbrev pub IsCountOut : Format → ℕ → ℕ → Type 0
IsCountOut format due count = (count < 2) ⊎ ((MOST_COMMITS < count) ⊎ (last_number format + 1 < due + count))

-- Fewer Commits than were counted are right, and the number of the next one has the fault.
pub record IsFaultInGroup (format : Format) (due count : ℕ) (bytes : List ℕ) (fault : EncodingError) : Type 0 where
  pub commits : List Entry
  pub rest : List ℕ
  pub parts : bytes ≡ flat_map (named_bytes format) commits ++ rest
  pub are : AreCommits commits
  pub earlier : AllByRecursion (NamesEarlier due) commits
  pub fewer : length commits < count
  pub wrong : IsEarlierFault format due rest fault

-- The bytes after a kind have the fault: in the one field that comes, in the batch after it, or in a number after a count.
pub data IsEntriesFault (format : Format) (due kind : ℕ) (bytes : List ℕ) (fault : EncodingError) : Type 0 where
  write_batch : kind ≡ 1 → IsBatchFault bytes fault → IsEntriesFault format due kind bytes fault
  prepare_name : kind ≡ 2 → IsWordFault MOST_NAME_BYTES bytes fault → IsEntriesFault format due kind bytes fault
  prepare_batch : (name rest : List ℕ) → kind ≡ 2 → HasName bytes name rest → IsBatchFault rest fault → IsEntriesFault format due kind bytes fault
  commit_number : kind ≡ 3 → IsEarlierFault format due bytes fault → IsEntriesFault format due kind bytes fault
  no_number_for_close : kind ≡ 4 → last_number format ≤ due → fault ≡ encoding.Word → IsEntriesFault format due kind bytes fault
  undo_number : kind ≡ 4 → due < last_number format → IsEarlierFault format due bytes fault → IsEntriesFault format due kind bytes fault
  undo_batch : (p : ℕ) (rest : List ℕ) → kind ≡ 4 → due < last_number format → HasNumberField format bytes p rest → IsEarlier due p → IsBatchFault rest fault → IsEntriesFault format due kind bytes fault
  no_count : kind ≡ 6 → bytes ≡ [] → fault ≡ encoding.Short → IsEntriesFault format due kind bytes fault
  count_out : (count : ℕ) (rest : List ℕ) → kind ≡ 6 → bytes ≡ count ∷ rest → IsCountOut format due count → fault ≡ encoding.Word → IsEntriesFault format due kind bytes fault
  group_number : (count : ℕ) (rest : List ℕ) → kind ≡ 6 → bytes ≡ count ∷ rest → IsCount format due count → IsFaultInGroup format due count rest fault → IsEntriesFault format due kind bytes fault

-- the number that is due and a kind are there, and what comes after them has the fault
pub record IsFaultAfterKind (format : Format) (due : ℕ) (bytes : List ℕ) (fault : EncodingError) : Type 0 where
  pub kind : ℕ
  pub rest : List ℕ
  pub front : HasDue format bytes due (kind ∷ rest)
  pub wrong : IsEntriesFault format due kind rest fault

-- a whole record is there, and bytes after it
pub record HasMore (format : Format) (due : ℕ) (bytes : List ℕ) (extra : ℕ) : Type 0 where
  pub entries : List Entry
  pub rest : List ℕ
  pub is : IsRecord format due entries
  pub parts : bytes ≡ record_bytes format due entries ++ rest
  pub some : 1 ≤ length rest
  pub counted : extra ≡ length rest

-- no record is of the kind
abbrev pub IsNoKind : ℕ → Type 0
IsNoKind kind = (kind ≡ 0) ⊎ ((kind ≡ 5) ⊎ (6 < kind))

-- the number that is due is there, and no entry may have it
abbrev pub IsPastLast : Format → ℕ → List ℕ → Type 0
IsPastLast format due bytes = (last_number format < due) × ((rest : List ℕ) × HasNumberField format bytes due rest)

-- The first fault of the bytes, read as the record with the number that is due: they end in the number, before the
-- kind or in a field after it; another number is there, or one past the last; the kind is none, or a change's is; a
-- field after the kind is out of range; or bytes follow the record. Want of memory is no fault of theirs.
abbrev pub IsRecordFault : Format → ℕ → List ℕ → RecordError → Type 0
IsRecordFault format due bytes Memory = ⊥
IsRecordFault format due bytes Short = (length bytes < byte_len (number_width format)) ⊎ (HasDue format bytes due [] ⊎ IsFaultAfterKind format due bytes encoding.Short)
IsRecordFault format due bytes (BadNumber found wanted) = (wanted ≡ due) × (found ≢ due) × ((rest : List ℕ) × HasNumberField format bytes found rest)
IsRecordFault format due bytes (BadKind byte) = ((rest : List ℕ) × HasDue format bytes due (byte ∷ rest) × IsNoKind byte) ⊎ IsFaultAfterKind format due bytes (encoding.Kind byte)
IsRecordFault format due bytes BadWord = IsPastLast format due bytes ⊎ IsFaultAfterKind format due bytes encoding.Word
IsRecordFault format due bytes (Extra extra) = HasMore format due bytes extra
