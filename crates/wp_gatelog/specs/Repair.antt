-- How an opening repairs a log that it read.
use Rattle.std.specs.Prelude.{◌≡◌, ◌≢◌, ◌⊎◌, ℕ, ◌+◌, List, [], ◌∷◌, ◌++◌, length, Option}
use Rattle.wp_gatelog.specs.declared.gate.GateByte.{GateByte}
use Rattle.wp_gatelog.specs.Scanning.{IsLast}
use Rattle.wp_gatelog.specs.Spelling.{Gated, Stamp, HasLog, log_of, records_of}

-- a log was read whole in these bytes, which are all that is behind a front
pub record IsReadLog (front magic : List ℕ) (stamp : Stamp) (head : ℕ) (records : List (List ℕ)) (last : Option GateByte) (end len : ℕ) (bytes : List ℕ) : Type 0 where
  pub gated : List Gated
  pub has_log : HasLog magic stamp head gated bytes
  pub same : records ≡ records_of gated
  pub last_is : IsLast (length front + 10) last gated
  pub place : end ≡ length front + length (log_of magic stamp head gated)
  pub size : len ≡ length front + length bytes
  pub magic_size : length magic ≡ 4

-- the bytes begin with front and a closed gate
abbrev pub HasFront : List ℕ → List ℕ → Type 0
HasFront front image = (more : List ℕ) × (image ≡ front ++ 0 ∷ more)

-- a gate that was not 01 is any
abbrev pub Reopens : List ℕ → ℕ → List ℕ → List ℕ → Type 0
Reopens front byte following image = (byte ≢ 1) × (gate : ℕ) × (more : List ℕ) × (image ≡ front ++ gate ∷ (following ++ more))

-- While a log is repaired, a crash leaves its head and its records with their gates; but where the head's gate was not
-- 01, it may be any, and after a head's gate of 01 so may the last record's gate that was not.
abbrev pub IsRepaired : List ℕ → Stamp → ℕ → List Gated → List ℕ → Type 0
IsRepaired magic stamp head gated image =
    HasFront (log_of magic stamp head gated) image
    ⊎ ((head ≢ 1) × (gate : ℕ) × HasFront (log_of magic stamp gate gated) image)
    ⊎ ((before : List Gated) × (last : Gated) × (gate : ℕ) × (gated ≡ before ++ last ∷ []) × (last.gate ≢ 1)
    × HasFront (log_of magic stamp 1 (before ++ record { gate = gate; bytes = last.bytes } ∷ [])) image)
