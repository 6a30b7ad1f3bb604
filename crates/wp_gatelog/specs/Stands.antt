-- What stands in a log, whatever follows it.
use Rattle.std.specs.Prelude.{◌≡◌, ◌≢◌, ℕ, List, ◌∷◌, ◌++◌, drop}
use Rattle.wp_outside.specs.Disk.{Moment, Each}
use Rattle.wp_gatelog.specs.Durability.{Preserves}
use Rattle.wp_gatelog.specs.Spelling.{Gated, Stamp, IsOpen, log_of, records_of}

-- The bytes begin with a head and these records, whole and each behind an open gate, and one more byte follows. `Spells`
-- asks that this is a closed gate; here it may be any, and no whole record need come behind an open one.
pub record Stands (magic : List ℕ) (stamp : Stamp) (records : List (List ℕ)) (bytes : List ℕ) : Type 0 where
  pub head : ℕ
  pub gated : List Gated
  pub gate : ℕ
  pub rest : List ℕ
  pub spelling : bytes ≡ log_of magic stamp head gated ++ gate ∷ rest
  pub head_open : head ≢ 0
  pub gates_open : Each IsOpen gated
  pub same : records ≡ records_of gated

-- records that a read shows from that place on at one moment, it shows at the next one too; their gates may change
abbrev pub StandsOn : ℕ → List ℕ → List Moment → List Moment → Type 0
StandsOn place magic old new = (stamp : Stamp) (records : List (List ℕ)) → Preserves (λ m. Stands magic stamp records (drop place m.reads)) old new
