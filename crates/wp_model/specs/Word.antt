-- Words: keys, values and names.
use Rattle.std.specs.Prelude.{ℕ, Bool, ◌&&◌, List, length, nat_le}
use Rattle.std.specs.List.{list_all}
use Rattle.wp_model.specs.declared.word.TheConstants.{MOST_KEY_BYTES, MOST_VALUE_BYTES, MOST_NAME_BYTES}

-- a printable byte of ASCII other than the space
abbrev pub is_word_byte : ℕ → Bool
is_word_byte b = nat_le 0x21 b && nat_le b 0x7E

-- one to most such bytes
abbrev pub is_word : ℕ → List ℕ → Bool
is_word most bytes = nat_le 1 (length bytes) && nat_le (length bytes) most && list_all is_word_byte bytes

abbrev pub is_key : List ℕ → Bool
is_key = is_word MOST_KEY_BYTES

abbrev pub is_value : List ℕ → Bool
is_value = is_word MOST_VALUE_BYTES

abbrev pub is_name : List ℕ → Bool
is_name = is_word MOST_NAME_BYTES
