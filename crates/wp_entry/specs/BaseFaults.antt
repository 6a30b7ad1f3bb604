-- Where in the bytes the first fault of a base record is, and which it is.
use Rattle.std.specs.Prelude.{◌≡◌, ℕ, ◌<◌, ◌≤◌, true, List, [], ◌∷◌, ◌++◌, length, ◌⊎◌}
use Rattle.std.specs.List.{flat_map, list_all}
use Rattle.wp_model.specs.declared.word.TheConstants.{MOST_NAME_BYTES}
use Rattle.wp_model.specs.declared.carried.Carried.{Carried}
use Rattle.wp_fields.specs.declared.format.Format.TheVariants.{Two}
use Rattle.wp_encoding.specs.declared.error.EncodingError.{EncodingError}
use Rattle.wp_encoding.specs.Faults.{IsWordFault, IsBatchFault}
use Rattle.wp_entry.specs.declared.error.RecordError.{RecordError}
use Rattle.wp_entry.specs.declared.error.RecordError.TheVariants.{Short, BadWord, Extra}
use Rattle.wp_entry.specs.Errors.{record_error}
use Rattle.wp_entry.specs.Record.{last_number}
use Rattle.wp_entry.specs.Faults.{HasNumberField, HasName}
use Rattle.wp_entry.specs.Base.{Base, carried_bytes, base_bytes, AscendUpTo, is_carried, IsBase}
use Rattle.wp_entry.specs.BaseReading.{base_error}

-- ---- one prepare

-- a number above the last one's and up to the base is there, and bytes after it
pub record HasCarriedNumber (base last : ℕ) (bytes : List ℕ) (number : ℕ) (rest : List ℕ) : Type 0 where
  pub field : HasNumberField Two bytes number rest
  pub above : last < number
  pub within : number ≤ base

-- The next carried prepare has the fault: its number is not there, or not above the last one's and up to the base; or its
-- name has it, or its batch.
pub data IsCarriedFault (base last : ℕ) (bytes : List ℕ) (fault : RecordError) : Type 0 where
  no_number : length bytes < 8 → fault ≡ Short → IsCarriedFault base last bytes fault
  number_out : (number : ℕ) (rest : List ℕ) → HasNumberField Two bytes number rest → (number ≤ last) ⊎ (base < number) → fault ≡ BadWord → IsCarriedFault base last bytes fault
  in_name : (number : ℕ) (rest : List ℕ) (named : EncodingError) → HasCarriedNumber base last bytes number rest → IsWordFault MOST_NAME_BYTES rest named → fault ≡ record_error named → IsCarriedFault base last bytes fault
  in_batch : (number : ℕ) (more name rest : List ℕ) (named : EncodingError) → HasCarriedNumber base last bytes number more → HasName more name rest → IsBatchFault rest named → fault ≡ base_error named → IsCarriedFault base last bytes fault

-- ---- several

-- the number of the last of them, or the one before them
abbrev pub last_of : ℕ → List Carried → ℕ
last_of last [] = last
last_of last (x ∷ others) = last_of x.number others

-- Fewer prepares than were counted are right, and the next one has the fault.
pub record IsFaultAmong (base count : ℕ) (bytes : List ℕ) (fault : RecordError) : Type 0 where
  pub carried : List Carried
  pub rest : List ℕ
  pub parts : bytes ≡ flat_map carried_bytes carried ++ rest
  pub ascend : AscendUpTo base 0 carried
  pub in_range : list_all is_carried carried ≡ true
  pub fewer : length carried < count
  pub wrong : IsCarriedFault base (last_of 0 carried) rest fault

-- ---- the whole

-- a base that an entry may have as its number is there, and bytes after it
pub record HasBase (bytes : List ℕ) (number : ℕ) (rest : List ℕ) : Type 0 where
  pub field : HasNumberField Two bytes number rest
  pub small : number ≤ last_number Two

-- The first fault of the bytes, read as a base record: they end in the base or in the count; no entry may have the base as
-- its number; a carried prepare has the fault; or bytes follow. Want of memory is no fault of theirs.
pub data IsBaseFault (bytes : List ℕ) (fault : RecordError) : Type 0 where
  no_base : length bytes < 8 → fault ≡ Short → IsBaseFault bytes fault
  past_last : (number : ℕ) (rest : List ℕ) → HasNumberField Two bytes number rest → last_number Two < number → fault ≡ BadWord → IsBaseFault bytes fault
  no_count : (number : ℕ) (rest : List ℕ) → HasBase bytes number rest → length rest < 8 → fault ≡ Short → IsBaseFault bytes fault
  among : (number count : ℕ) (rest more : List ℕ) → HasBase bytes number rest → HasNumberField Two rest count more → IsFaultAmong number count more fault → IsBaseFault bytes fault
  extra : (base : Base) (rest : List ℕ) → IsBase base → bytes ≡ base_bytes base ++ rest → 1 ≤ length rest → fault ≡ Extra (length rest) → IsBaseFault bytes fault
