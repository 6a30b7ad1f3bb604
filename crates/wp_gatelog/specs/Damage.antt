-- Which bytes spell no records.
use Rattle.std.specs.Prelude.{◌≡◌, ◌≢◌, ◌⊎◌, ℕ, zero, suc, ◌+◌, ◌<◌, List, ◌∷◌, ◌++◌, length, take, drop, slice_index}
use Rattle.std.specs.Int.{w64, from_be_bytes}
use Rattle.wp_outside.specs.Disk.{Each}
use Rattle.wp_fields.specs.declared.format.Format.{Format}
use Rattle.wp_fields.specs.Format.{format_byte}
use Rattle.wp_gatelog.specs.Spelling.{Gated, Stamp, IsOpen, IsUnmade, IsUpTo, log_of}

-- the byte names no version up to the newest one
abbrev pub IsNoVersion : Format → ℕ → Type 0
IsNoVersion newest byte = (format : Format) → IsUpTo newest format → byte ≢ format_byte format

-- a log was made here, and it is cut before its first gate, or it has another magic, or a version that is none up to the
-- newest one
pub record IsBadHead (magic : List ℕ) (newest : Format) (bytes : List ℕ) : Type 0 where
  pub made : IsUnmade bytes → ⊥
  pub wrong : (length bytes < 11) ⊎ (take 4 (drop 1 bytes) ≢ magic) ⊎ IsNoVersion newest (slice_index bytes 5)

-- the same of a log at a place; above place 0 a closed gate is no head either
abbrev pub IsBadHeadAt : ℕ → List ℕ → Format → List ℕ → Type 0
IsBadHeadAt zero magic newest bytes = IsBadHead magic newest bytes
IsBadHeadAt (suc place) magic newest bytes = IsUnmade (drop (suc place) bytes) ⊎ IsBadHead magic newest (drop (suc place) bytes)

-- the length that the first eight bytes state
unfoldable pub stated_length : List ℕ → ℕ
stated_length bytes = from_be_bytes w64 (take 8 bytes)

-- fewer bytes than a length of eight bytes, so many bytes and the next gate
abbrev pub IsShort : List ℕ → Type 0
IsShort following = length following < 9 + stated_length following

-- Behind a head of a version up to the newest one so many whole records follow open gates, and then an open gate comes
-- without a whole record after it.
pub record IsCut (magic : List ℕ) (newest : Format) (index : ℕ) (bytes : List ℕ) : Type 0 where
  pub stamp : Stamp
  pub readable : IsUpTo newest stamp.format
  pub head : ℕ
  pub gated : List Gated
  pub gate : ℕ
  pub rest : List ℕ
  pub spelling : bytes ≡ log_of magic stamp head gated ++ gate ∷ rest
  pub head_open : head ≢ 0
  pub gates_open : Each IsOpen gated
  pub before : length gated ≡ index
  pub gate_open : gate ≢ 0
  pub short : IsShort rest
