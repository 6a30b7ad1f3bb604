-- Where in the bytes the first fault is, and which it is. What is read from the left is right up to there.
use Rattle.std.specs.Prelude.{◌≡◌, ℕ, zero, suc, ◌^◌, ◌<◌, ◌≤◌, true, false, List, [], ◌∷◌, ◌++◌, length, take, ◌⊎◌}
use Rattle.std.specs.Int.{w16, to_be_bytes}
use Rattle.std.specs.List.{flat_map}
use Rattle.wp_model.specs.declared.word.TheConstants.{MOST_KEY_BYTES, MOST_VALUE_BYTES}
use Rattle.wp_model.specs.declared.batch.TheConstants.{MOST_KEYS}
use Rattle.wp_model.specs.declared.change.Change.{Change}
use Rattle.wp_model.specs.Word.{is_word, is_key}
use Rattle.wp_encoding.specs.declared.error.EncodingError.{EncodingError}
use Rattle.wp_encoding.specs.declared.error.EncodingError.TheVariants.{Short, Kind, Word}
use Rattle.wp_encoding.specs.Encoding.{word_bytes, change_bytes, are_changes}
use Rattle.wp_encoding.specs.Reading.{is_above_last}

-- The text of a word whose length is said to be `len`: the length is out of range; or fewer bytes are there; or all
-- are, and one of them is out of range.
abbrev pub IsTextFault : ℕ → ℕ → List ℕ → EncodingError → Type 0
IsTextFault most len bytes Word = (len ≡ 0) ⊎ ((most < len) ⊎ ((len ≤ length bytes) × (is_word most (take len bytes) ≡ false)))
IsTextFault most len bytes Short = (1 ≤ len) × (len ≤ most) × (length bytes < len)
IsTextFault most len bytes other = ⊥

-- a key or a name: there is no length, or the fault is that of its text
abbrev pub IsWordFault : ℕ → List ℕ → EncodingError → Type 0
IsWordFault most [] fault = fault ≡ Short
IsWordFault most (len ∷ bytes) fault = IsTextFault most len bytes fault

-- a value whose length is there
pub record IsValueTextFault (bytes : List ℕ) (fault : EncodingError) : Type 0 where
  pub len : ℕ
  pub text : List ℕ
  pub parts : bytes ≡ to_be_bytes w16 len ++ text
  pub small : len < 2 ^ 16
  pub wrong : IsTextFault MOST_VALUE_BYTES len text fault

-- a value: there is no length, or the fault is that of its text
abbrev pub IsValueFault : List ℕ → EncodingError → Type 0
IsValueFault bytes fault = ((length bytes < 2) × (fault ≡ Short)) ⊎ IsValueTextFault bytes fault

-- a key is there, and bytes after it
pub record HasKey (bytes key rest : List ℕ) : Type 0 where
  pub parts : bytes ≡ word_bytes key ++ rest
  pub in_range : is_key key ≡ true

-- the key of the change after those of a batch is no word, or not above the last of theirs
abbrev pub IsKeyFault : List Change → List ℕ → EncodingError → Type 0
IsKeyFault batch bytes fault = IsWordFault MOST_KEY_BYTES bytes fault ⊎ ((key rest : List ℕ) × HasKey bytes key rest × (is_above_last batch key ≡ false) × (fault ≡ Word))

-- The change after those of a batch: the byte before it is not there or is neither 00 nor 01, or its key or its value
-- has the fault.
abbrev pub IsChangeFault : List Change → List ℕ → EncodingError → Type 0
IsChangeFault batch [] fault = fault ≡ Short
IsChangeFault batch (zero ∷ bytes) fault = IsKeyFault batch bytes fault
IsChangeFault batch (suc zero ∷ bytes) fault = IsKeyFault batch bytes fault ⊎ ((key rest : List ℕ) × HasKey bytes key rest × (is_above_last batch key ≡ true) × IsValueFault rest fault)
IsChangeFault batch (suc (suc n) ∷ bytes) fault = fault ≡ Kind (suc (suc n))

-- Fewer changes than were counted are right, and the next one has the fault.
pub record IsNextFault (count : ℕ) (bytes : List ℕ) (fault : EncodingError) : Type 0 where
  pub changes : List Change
  pub rest : List ℕ
  pub parts : bytes ≡ flat_map change_bytes changes ++ rest
  pub right : are_changes changes ≡ true
  pub fewer : length changes < count
  pub wrong : IsChangeFault changes rest fault

-- A batch: there is no count, or it is out of range, or one of the changes has the fault.
abbrev pub IsBatchFault : List ℕ → EncodingError → Type 0
IsBatchFault [] fault = fault ≡ Short
IsBatchFault (count ∷ bytes) fault = ((MOST_KEYS < count) × (fault ≡ Word)) ⊎ ((count ≤ MOST_KEYS) × IsNextFault count bytes fault)
