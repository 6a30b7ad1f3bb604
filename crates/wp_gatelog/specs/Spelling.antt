-- Which records bytes spell.
--
-- A log is a head (a gate, four bytes magic, a byte that names the version, four bytes id), records, each after a gate of
-- its own, and a closed gate. What follows the first closed gate is nothing.
use Rattle.std.specs.Prelude.{◌≡◌, ◌≢◌, ◌⊎◌, ℕ, zero, suc, ◌-◌, ◌<◌, ◌≤◌, ◌^◌, List, [], ◌∷◌, ◌++◌, length, take, drop, map, ⊤}
use Rattle.std.specs.Int.{w32, w64, to_be_bytes}
use Rattle.wp_outside.specs.Disk.{Each}
use Rattle.wp_fields.specs.declared.format.Format.{Format}
use Rattle.wp_fields.specs.Format.{format_byte}

-- a record, and the gate before it: 0 is closed, every other byte is open
pub record Gated : Type 0 where
  pub gate : ℕ
  pub bytes : List ℕ

-- a record's length in eight bytes, and its bytes
unfoldable pub framed : List ℕ → List ℕ
framed bytes = to_be_bytes w64 (length bytes) ++ bytes

-- what is written for a new record: the next one's gate follows it, closed
abbrev pub frame_of : List ℕ → List ℕ
frame_of bytes = framed bytes ++ 0 ∷ []

-- the record whose frame this is: after eight bytes of length, and before a gate
abbrev pub framed_in : List ℕ → List ℕ
framed_in frame = take (length frame - 9) (drop 8 frame)

-- what a log's head says behind its magic: the version of the log, and its id
pub record Stamp : Type 0 where
  pub format : Format
  pub id : ℕ

abbrev pub stamped : Format → ℕ → Stamp
stamped format id = record { format = format; id = id }

-- a version is this one, or came before it
abbrev pub IsUpTo : Format → Format → Type 0
IsUpTo newest format = format_byte format ≤ format_byte newest

-- what follows the head's gate
unfoldable pub identity : List ℕ → Stamp → List ℕ
identity magic stamp = magic ++ format_byte stamp.format ∷ to_be_bytes w32 stamp.id

-- records, each after its gate
abbrev pub all_gated : List Gated → List ℕ
all_gated [] = []
all_gated (g ∷ more) = g.gate ∷ (framed g.bytes ++ all_gated more)

-- a log before the gate that ends it
abbrev pub log_of : List ℕ → Stamp → ℕ → List Gated → List ℕ
log_of magic stamp head gated = head ∷ (identity magic stamp ++ all_gated gated)

-- the gate is open, and the length fits its eight bytes
pub record IsOpen (g : Gated) : Type 0 where
  pub gate : g.gate ≢ 0
  pub length_fits : length g.bytes < 2 ^ 64

-- the bytes have a log: its head's gate and those of its records are open, and a closed one ends it
pub record HasLog (magic : List ℕ) (stamp : Stamp) (head : ℕ) (gated : List Gated) (bytes : List ℕ) : Type 0 where
  pub rest : List ℕ
  pub spelling : bytes ≡ log_of magic stamp head gated ++ 0 ∷ rest
  pub head_open : head ≢ 0
  pub gates_open : Each IsOpen gated

-- no log was made here yet
abbrev pub IsUnmade : List ℕ → Type 0
IsUnmade [] = ⊤
IsUnmade (gate ∷ []) = ⊤
IsUnmade (gate ∷ byte ∷ bytes) = gate ≡ 0

-- the records after the gates
abbrev pub records_of : List Gated → List (List ℕ)
records_of gated = map (λ g. g.bytes) gated

-- a log is made at place 0 alone
abbrev pub IsUnmadeAt : ℕ → List ℕ → Type 0
IsUnmadeAt zero bytes = IsUnmade bytes
IsUnmadeAt (suc place) bytes = ⊥

-- From that place on the bytes spell these records under this magic, version and id, whatever stands before it. Where no
-- log was made yet at place 0, they spell none, under any version and id.
abbrev pub SpellsAt : ℕ → List ℕ → List ℕ → Stamp → List (List ℕ) → Type 0
SpellsAt place bytes magic stamp records =
    (IsUnmadeAt place bytes × (records ≡ []))
    ⊎ ((head : ℕ) × (gated : List Gated) × HasLog magic stamp head gated (drop place bytes) × (records ≡ records_of gated))

-- the same of a log at place 0
abbrev pub Spells : List ℕ → List ℕ → Stamp → List (List ℕ) → Type 0
Spells = SpellsAt 0
