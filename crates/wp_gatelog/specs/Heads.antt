-- What is where a log's head should be.
use Rattle.std.specs.Prelude.{◌≡◌, ◌≢◌, ◌⊎◌, ℕ, List, [], ◌∷◌, ◌++◌, length, ⊤}
use Rattle.wp_fields.specs.declared.format.Format.{Format}
use Rattle.wp_gatelog.specs.declared.head.Head.{Head}
use Rattle.wp_gatelog.specs.declared.head.Head.TheVariants.{Unmade, Bad, Made}
use Rattle.wp_gatelog.specs.Damage.{IsBadHead}
use Rattle.wp_gatelog.specs.Spelling.{Stamp, stamped, identity, IsUnmade, IsUpTo, Spells}

-- what the head of these bytes is, where versions up to the newest one are read
abbrev pub IsHead : List ℕ → Format → List ℕ → Head → Type 0
IsHead magic newest bytes Unmade = IsUnmade bytes
IsHead magic newest bytes Bad = IsBadHead magic newest bytes
IsHead magic newest bytes (Made gate format id first) = (rest : List ℕ) × (gate ≢ 0) × (bytes ≡ gate ∷ (identity magic (stamped format id) ++ first ∷ rest))

-- a head that was made is of a version up to this one
abbrev pub IsReadUpTo : Format → Head → Type 0
IsReadUpTo newest Unmade = ⊤
IsReadUpTo newest Bad = ⊤
IsReadUpTo newest (Made gate format id first) = IsUpTo newest format

-- they spell a log without records
abbrev pub SpellsNone : List ℕ → Stamp → List ℕ → Type 0
SpellsNone magic stamp bytes = Spells bytes magic stamp []

-- a log with this head, of a version up to the newest one, and with this gate behind it, begins these bytes
pub record BeginsLog (magic : List ℕ) (newest : Format) (stamp : Stamp) (head first : ℕ) (bytes : List ℕ) : Type 0 where
  pub magic_size : length magic ≡ 4
  pub readable : IsUpTo newest stamp.format
  pub made : (rest : List ℕ) × (head ≢ 0) × (bytes ≡ head ∷ (identity magic stamp ++ first ∷ rest))

-- nothing was made yet; or an open gate begins the bytes, and these follow
abbrev pub BeginsOpen : List ℕ → List ℕ → Type 0
BeginsOpen rest bytes = IsUnmade bytes ⊎ ((gate : ℕ) × (more : List ℕ) × (gate ≢ 0) × (bytes ≡ gate ∷ (rest ++ more)))
