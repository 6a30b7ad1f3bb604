-- Reading a base record from left to right, with the first fault that is met.
use Rattle.std.specs.Prelude.{ℕ, zero, suc, ◌||◌, List, [], ◌∷◌, ◌++◌, length, Result, Ok, Err, nat_le, nat_lt, ◌==◌, if◌then◌else◌}
use Rattle.std.specs.Int.{w64}
use Rattle.wp_model.specs.declared.carried.Carried.{Carried}
use Rattle.wp_model.specs.declared.change.Change.{Change}
use Rattle.wp_fields.specs.Reading.{◌>>=◌, map_err, number_at}
use Rattle.wp_fields.specs.declared.format.Format.TheVariants.{Two}
use Rattle.wp_encoding.specs.declared.error.EncodingError.{EncodingError}
use Rattle.wp_encoding.specs.declared.error.EncodingError.TheVariants as encoding
use Rattle.wp_encoding.specs.Reading.{batch_field_at}
use Rattle.wp_entry.specs.declared.error.RecordError.{RecordError}
use Rattle.wp_entry.specs.declared.error.RecordError.TheVariants.{Memory, Short, BadWord, Extra}
use Rattle.wp_entry.specs.Record.{last_number}
use Rattle.wp_entry.specs.Reading.{name_in_record}
use Rattle.wp_entry.specs.Base.{Base}

-- the error of a base record, the batch of one of whose prepares could not be read: nothing in it is of a kind
abbrev pub base_error : EncodingError → RecordError
base_error encoding.Memory = Memory
base_error encoding.Short = Short
base_error (encoding.Kind byte) = BadWord
base_error encoding.Word = BadWord

-- a batch in a base record
abbrev pub batch_in_base : List ℕ → Result (List Change × List ℕ) RecordError
batch_in_base bytes = map_err base_error (batch_field_at bytes)

-- the number of a carried prepare, above the last one's and up to the base
unfoldable pub carried_number_at : ℕ → ℕ → List ℕ → Result (ℕ × List ℕ) RecordError
carried_number_at base last bytes = do
  number ← number_at Short w64 bytes
  if nat_le number.0 last || nat_lt base number.0 then Err BadWord else Ok number

abbrev pub carried_with : ℕ → List ℕ → List Change → Carried
carried_with number name batch = record { number = number; name = name; batch = batch }

-- a carried prepare
unfoldable pub carried_at : ℕ → ℕ → List ℕ → Result (Carried × List ℕ) RecordError
carried_at base last bytes = do
  number ← carried_number_at base last bytes
  name ← name_in_record number.1
  batch ← batch_in_base name.1
  Ok (carried_with number.0 name.0 batch.0, batch.1)

-- those that were read, and so many more, where the last one that was read had that number
unfoldable pub carried_after : ℕ → ℕ → ℕ → List Carried → List ℕ → Result (List Carried × List ℕ) RecordError
carried_after zero base last carried bytes = Ok (carried, bytes)
carried_after (suc count) base last carried bytes = do
  next ← carried_at base last bytes
  carried_after count base next.0.number (carried ++ next.0 ∷ []) next.1

-- the base
unfoldable pub base_number_at : List ℕ → Result (ℕ × List ℕ) RecordError
base_number_at bytes = do
  number ← number_at Short w64 bytes
  if nat_lt (last_number Two) number.0 then Err BadWord else Ok number

-- all of the bytes
unfoldable pub base_at : List ℕ → Result Base RecordError
base_at bytes = do
  number ← base_number_at bytes
  count ← number_at Short w64 number.1
  carried ← carried_after count.0 number.0 0 [] count.1
  if length carried.1 == 0 then Ok (record { number = number.0; carried = carried.0 }) else Err (Extra (length carried.1))
