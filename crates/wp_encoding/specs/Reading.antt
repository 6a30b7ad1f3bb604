-- Reading from left to right, with the first fault that is met.
use Rattle.std.specs.Prelude.{ℕ, zero, suc, Bool, true, ◌||◌, List, [], ◌∷◌, ◌++◌, Result, Ok, Err, nat_lt, ◌==◌, if◌then◌else◌}
use Rattle.std.specs.Int.{w16}
use Rattle.std.specs.Ordering.{is_lt}
use Rattle.wp_model.specs.declared.word.TheConstants.{MOST_KEY_BYTES, MOST_VALUE_BYTES}
use Rattle.wp_model.specs.declared.batch.TheConstants.{MOST_KEYS}
use Rattle.wp_model.specs.declared.change.Change.{Change}
use Rattle.wp_model.specs.declared.change.Change.TheVariants.{Put, Del}
use Rattle.wp_model.specs.Word.{is_word}
use Rattle.wp_model.specs.Batch.{key_cmp, key_of}
use Rattle.wp_fields.specs.Reading.{◌>>=◌, byte_at, number_at, piece_at}
use Rattle.wp_encoding.specs.declared.error.EncodingError.{EncodingError}
use Rattle.wp_encoding.specs.declared.error.EncodingError.TheVariants.{Short, Kind, Word}

-- the text of a word of one to `most` bytes, whose length is said to be `len`
unfoldable pub text_at : ℕ → ℕ → List ℕ → Result (List ℕ × List ℕ) EncodingError
text_at most len bytes =
    if len == 0 || nat_lt most len then Err Word
    else (piece_at Short len bytes >>= λ text. if is_word most text.0 then Ok text else Err Word)

-- a key or a name, of one to `most` bytes
unfoldable pub word_field_at : ℕ → List ℕ → Result (List ℕ × List ℕ) EncodingError
word_field_at most bytes = do
  len ← byte_at Short bytes
  text_at most len.0 len.1

unfoldable pub value_field_at : List ℕ → Result (List ℕ × List ℕ) EncodingError
value_field_at bytes = do
  len ← number_at Short w16 bytes
  text_at MOST_VALUE_BYTES len.0 len.1

-- the key is above that of the last change, if there is one
abbrev pub is_above_last : List Change → List ℕ → Bool
is_above_last [] key = true
is_above_last (last ∷ []) key = is_lt (key_cmp (key_of last) key)
is_above_last (first ∷ second ∷ others) key = is_above_last (second ∷ others) key

-- the key of the change after those of the batch
unfoldable pub next_key_at : List Change → List ℕ → Result (List ℕ × List ℕ) EncodingError
next_key_at batch bytes = do
  key ← word_field_at MOST_KEY_BYTES bytes
  if is_above_last batch key.0 then Ok key else Err Word

-- the change after those of the batch
unfoldable pub next_change_at : List Change → List ℕ → Result (Change × List ℕ) EncodingError
next_change_at batch [] = Err Short
next_change_at batch (zero ∷ bytes) = do
  key ← next_key_at batch bytes
  Ok (Del key.0, key.1)
next_change_at batch (suc zero ∷ bytes) = do
  key ← next_key_at batch bytes
  value ← value_field_at key.1
  Ok (Put key.0 value.0, value.1)
next_change_at batch (suc (suc n) ∷ bytes) = Err (Kind (suc (suc n)))

-- the batch with so many changes more
unfoldable pub changes_after : ℕ → List Change → List ℕ → Result (List Change × List ℕ) EncodingError
changes_after zero batch bytes = Ok (batch, bytes)
changes_after (suc count) batch bytes = do
  change ← next_change_at batch bytes
  changes_after count (batch ++ change.0 ∷ []) change.1

unfoldable pub batch_field_at : List ℕ → Result (List Change × List ℕ) EncodingError
batch_field_at bytes = do
  count ← byte_at Short bytes
  if nat_lt MOST_KEYS count.0 then Err Word else changes_after count.0 [] count.1
