-- What is durable on a disk from one moment to the next.
use Rattle.std.specs.Prelude.{◌≡◌, ℕ, List, [], ◌∷◌, ◌++◌, ⊤}
use Rattle.wp_outside.specs.Disk.{Moment, IfKnown}
use Rattle.wp_gatelog.specs.Log.{IsAcknowledged}
use Rattle.wp_gatelog.specs.Moments.{LeavesFrom}
use Rattle.wp_gatelog.specs.Spelling.{Gated, Stamp, log_of}

-- ---- moments

-- each of the moments that came since old has P if the one before it has
abbrev pub PassedOn : (Moment → Type 0) → List Moment → List Moment → Type 0
PassedOn P old [] = ⊤
PassedOn P old (m ∷ more) = (IfKnown (more ++ old) P → P m) × PassedOn P old more

-- new is old with further moments on top, and from each moment to the next, in time, what had P has it still
abbrev pub Preserves : (Moment → Type 0) → List Moment → List Moment → Type 0
Preserves P old new = (more : List Moment) × (new ≡ more ++ old) × PassedOn P old more

-- ---- records

-- The bytes begin with acknowledged records, of which these are the first, and a further gate, any byte, follows.
-- Whatever comes then, bytes that spell records spell these first.
pub record HasAcknowledged (magic : List ℕ) (stamp : Stamp) (records : List (List ℕ)) (bytes : List ℕ) : Type 0 where
  pub gated : List Gated
  pub more : List (List ℕ)
  pub acknowledged : IsAcknowledged gated (records ++ more)
  pub gate : ℕ
  pub rest : List ℕ
  pub spelling : bytes ≡ log_of magic stamp 1 gated ++ gate ∷ rest

-- if the bytes have the records acknowledged, so has each image with P
abbrev pub Spares : List ℕ → Stamp → List (List ℕ) → List ℕ → (List ℕ → Type 0) → Type 0
Spares magic stamp records bytes P = HasAcknowledged magic stamp records bytes → (image : List ℕ) → P image → HasAcknowledged magic stamp records image

-- Records that each crash at one moment would leave acknowledged in the log at that place, each crash at a later moment
-- leaves so too.
abbrev pub LosesNoRecordAt : ℕ → List ℕ → List Moment → List Moment → Type 0
LosesNoRecordAt place magic old new = (stamp : Stamp) (records : List (List ℕ)) → Preserves (LeavesFrom place (HasAcknowledged magic stamp records)) old new

-- the same of a log at place 0
abbrev pub LosesNoRecord : List ℕ → List Moment → List Moment → Type 0
LosesNoRecord = LosesNoRecordAt 0
