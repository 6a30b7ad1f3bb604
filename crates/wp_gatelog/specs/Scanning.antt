-- What an opening reads of a log's records.
use Rattle.std.specs.Prelude.{◌≡◌, ◌≢◌, ℕ, ◌+◌, ◌<◌, List, [], ◌∷◌, ◌++◌, length, Option, Some, None, ⊤}
use Rattle.wp_outside.specs.Disk.{Moment, IfKnown, Each}
use Rattle.wp_gatelog.specs.declared.error.LogError.{LogError}
use Rattle.wp_gatelog.specs.declared.error.LogError.TheVariants as error
use Rattle.wp_gatelog.specs.declared.gate.GateByte.{GateByte}
use Rattle.wp_gatelog.specs.declared.scan.Next.{Next}
use Rattle.wp_gatelog.specs.declared.scan.Next.TheVariants as next
use Rattle.wp_gatelog.specs.Damage.{IsShort}
use Rattle.wp_gatelog.specs.Patched.{Shows, EndsAt, ReadsTo}
use Rattle.wp_gatelog.specs.Spelling.{Gated, IsOpen, framed, all_gated, records_of}

-- no gate is there, or an open one without a record and a further gate behind it
abbrev pub IsUnfinished : List ℕ → Type 0
IsUnfinished [] = ⊤
IsUnfinished (gate ∷ following) = (gate ≢ 0) × IsShort following

-- A gate, and behind an open one a record of so many bytes and a further gate, begin these bytes; or they end before that.
abbrev pub IsNext : List ℕ → Next → Type 0
IsNext bytes next.Closed = (following : List ℕ) × (bytes ≡ 0 ∷ following)
IsNext bytes (next.Short whole) = IsUnfinished bytes
IsNext bytes (next.Open gate len) = (found : List ℕ) × (rest : List ℕ) × (len ≡ length found) × IsOpen (record { gate = gate; bytes = found })
    × (0 < length rest) × (bytes ≡ gate ∷ (framed found ++ rest))

-- the bytes stand at that place at this moment; where no gate, or no whole record, begins them, they are all that is there
abbrev pub IsWholeAt : ℕ → List ℕ → Moment → Type 0
IsWholeAt at bytes m = Shows at bytes m × (IsUnfinished bytes → EndsAt at bytes m)

-- the gate of the last record, and its place, of records that begin at start
abbrev pub IsLast : ℕ → Option GateByte → List Gated → Type 0
IsLast start None gated = gated ≡ []
IsLast start (Some last) gated = (before : List Gated) × (found : List ℕ)
    × (gated ≡ before ++ record { gate = last.byte; bytes = found } ∷ []) × (last.at ≡ start + length (all_gated before))

-- these records were read of the bytes after a head, which begin at start, and rest is left
pub record HasRead (start : ℕ) (bytes rest : List ℕ) (records : List (List ℕ)) (last : Option GateByte) (end : ℕ) : Type 0 where
  pub gated : List Gated
  pub spelling : bytes ≡ all_gated gated ++ rest
  pub gates_open : Each IsOpen gated
  pub same : records ≡ records_of gated
  pub place : end ≡ start + length (all_gated gated)
  pub last_is : IsLast start last gated

-- why the records of the bytes after the head can't be read
abbrev pub IsReadFault : ℕ → List ℕ → LogError → Type 0
IsReadFault id bytes error.Memory = ⊤
IsReadFault id bytes error.DiskFault = ⊤
IsReadFault id bytes error.BadHead = ⊥
IsReadFault id bytes (error.Cut index named) = (named ≡ id) × (gated : List Gated) × (gate : ℕ) × (following : List ℕ) × Each IsOpen gated
    × (length gated ≡ index) × (gate ≢ 0) × IsShort following × (bytes ≡ all_gated gated ++ gate ∷ following)

-- Why the records of a device can't be read that went from old to new: texts that were put together of it have the
-- fault, and it ended behind them at last.
abbrev pub RefusedBy : ℕ → ℕ → List Moment → List Moment → LogError → Type 0
RefusedBy start id old new error.Memory = ⊤
RefusedBy start id old new error.DiskFault = ⊤
RefusedBy start id old new error.BadHead = ⊥
RefusedBy start id old new (error.Cut index named) = ReadsTo start old new (λ text. IsReadFault id text (error.Cut index named) × IfKnown new (EndsAt start text))
