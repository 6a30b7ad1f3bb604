-- Reading a record from left to right, with the first fault that is met.
use Rattle.std.specs.Prelude.{ℕ, zero, suc, ◌+◌, ◌||◌, List, [], ◌∷◌, ◌++◌, length, Result, Ok, Err, nat_le, nat_lt, ◌==◌, if◌then◌else◌}
use Rattle.wp_model.specs.declared.word.TheConstants.{MOST_NAME_BYTES}
use Rattle.wp_model.specs.declared.change.Change.{Change}
use Rattle.wp_model.specs.declared.entry.Entry.{Entry}
use Rattle.wp_model.specs.declared.entry.Entry.TheVariants.{Write, Prepare, Commit, Undo, Close}
use Rattle.wp_model.specs.declared.entry.TheConstants.{MOST_COMMITS}
use Rattle.wp_fields.specs.Reading.{◌>>=◌, map_err, byte_at, number_at}
use Rattle.wp_fields.specs.declared.format.Format.{Format}
use Rattle.wp_fields.specs.Format.{number_width}
use Rattle.wp_encoding.specs.Reading as encoding
use Rattle.wp_entry.specs.declared.error.RecordError.{RecordError}
use Rattle.wp_entry.specs.declared.error.RecordError.TheVariants.{Short, BadNumber, BadKind, BadWord, Extra}
use Rattle.wp_entry.specs.Errors.{record_error}
use Rattle.wp_entry.specs.Record.{last_number}

-- the bytes after the number that is due, which is that of an entry
unfoldable pub after_number : Format → ℕ → List ℕ → Result (List ℕ) RecordError
after_number format due bytes = do
  number ← number_at Short (number_width format) bytes
  if number.0 == due then (if nat_lt (last_number format) due then Err BadWord else Ok number.1) else Err (BadNumber number.0 due)

-- a name, and a batch, in a record
abbrev pub name_in_record : List ℕ → Result (List ℕ × List ℕ) RecordError
name_in_record bytes = map_err record_error (encoding.word_field_at MOST_NAME_BYTES bytes)

abbrev pub batch_in_record : List ℕ → Result (List Change × List ℕ) RecordError
batch_in_record bytes = map_err record_error (encoding.batch_field_at bytes)

-- one Write
unfoldable pub write_at : List ℕ → Result (List Entry × List ℕ) RecordError
write_at bytes = do
  batch ← batch_in_record bytes
  Ok (Write batch.0 ∷ [], batch.1)

-- one Prepare
unfoldable pub prepare_at : List ℕ → Result (List Entry × List ℕ) RecordError
prepare_at bytes = do
  name ← name_in_record bytes
  batch ← batch_in_record name.1
  Ok (Prepare name.0 batch.0 ∷ [], batch.1)

-- the number of an entry before the one with the number that is due
unfoldable pub earlier_at : Format → ℕ → List ℕ → Result (ℕ × List ℕ) RecordError
earlier_at format due bytes = do
  number ← number_at Short (number_width format) bytes
  if number.0 == 0 || nat_le due number.0 then Err BadWord else Ok number

-- one Commit
unfoldable pub commit_at : Format → ℕ → List ℕ → Result (List Entry × List ℕ) RecordError
commit_at format due bytes = do
  p ← earlier_at format due bytes
  Ok (Commit p.0 ∷ [], p.1)

-- an Undo and its Close, which has a number too
unfoldable pub rollback_at : Format → ℕ → List ℕ → Result (List Entry × List ℕ) RecordError
rollback_at format due bytes =
    if nat_le (last_number format) due then Err BadWord
    else (earlier_at format due bytes >>= λ p. batch_in_record p.1 >>= λ batch. Ok (Undo p.0 batch.0 ∷ Close p.0 ∷ [], batch.1))

-- so many Commits, behind those already read
unfoldable pub commits_after : ℕ → Format → ℕ → List Entry → List ℕ → Result (List Entry × List ℕ) RecordError
commits_after zero format due commits bytes = Ok (commits, bytes)
commits_after (suc count) format due commits bytes = do
  p ← earlier_at format due bytes
  commits_after count format due (commits ++ Commit p.0 ∷ []) p.1

-- how many Commits a group has, of which the first has the number that is due, and the last has a number too
unfoldable pub count_at : Format → ℕ → List ℕ → Result (ℕ × List ℕ) RecordError
count_at format due bytes = do
  count ← byte_at Short bytes
  if nat_lt count.0 2 || nat_lt MOST_COMMITS count.0 || nat_lt (last_number format + 1) (due + count.0) then Err BadWord else Ok count

-- a group of Commits
unfoldable pub group_at : Format → ℕ → List ℕ → Result (List Entry × List ℕ) RecordError
group_at format due bytes = do
  count ← count_at format due bytes
  commits_after count.0 format due [] count.1

-- the entries of a record of that kind
unfoldable pub entries_at : Format → ℕ → ℕ → List ℕ → Result (List Entry × List ℕ) RecordError
entries_at format due kind bytes =
    if kind == 1 then write_at bytes
    else (if kind == 2 then prepare_at bytes
    else (if kind == 3 then commit_at format due bytes
    else (if kind == 4 then rollback_at format due bytes
    else (if kind == 6 then group_at format due bytes
    else Err (BadKind kind)))))

-- all of the bytes
unfoldable pub record_at : Format → ℕ → List ℕ → Result (List Entry) RecordError
record_at format due bytes = do
  rest ← after_number format due bytes
  kind ← byte_at Short rest
  entries ← entries_at format due kind.0 kind.1
  if length entries.1 == 0 then Ok entries.0 else Err (Extra (length entries.1))
