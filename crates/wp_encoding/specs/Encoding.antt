-- The spelling of keys, names, values, changes and batches, and which of them have one.
use Rattle.std.specs.Prelude.{ℕ, Bool, ◌&&◌, List, ◌∷◌, ◌++◌, length}
use Rattle.std.specs.Int.{w16, to_be_bytes}
use Rattle.std.specs.List.{flat_map, list_all}
use Rattle.wp_model.specs.declared.change.Change.{Change}
use Rattle.wp_model.specs.declared.change.Change.TheVariants.{Put, Del}
use Rattle.wp_model.specs.Word.{is_key, is_value}
use Rattle.wp_model.specs.Batch.{is_batch}

-- a key or a name: one byte length, and that many bytes
abbrev pub word_bytes : List ℕ → List ℕ
word_bytes word = length word ∷ word

-- a value: two bytes length, and that many bytes
abbrev pub value_bytes : List ℕ → List ℕ
value_bytes value = to_be_bytes w16 (length value) ++ value

-- 00 and the key, or 01, the key and the value
abbrev pub change_bytes : Change → List ℕ
change_bytes (Del key) = 0 ∷ word_bytes key
change_bytes (Put key value) = 1 ∷ (word_bytes key ++ value_bytes value)

-- one byte count, and that many changes
abbrev pub batch_bytes : List Change → List ℕ
batch_bytes batch = length batch ∷ flat_map change_bytes batch

-- the words of a change are in range
abbrev pub is_change : Change → Bool
is_change (Del key) = is_key key
is_change (Put key value) = is_key key && is_value value

-- the changes are a batch, and their words are in range
abbrev pub are_changes : List Change → Bool
are_changes batch = is_batch batch && list_all is_change batch
