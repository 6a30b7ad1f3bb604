-- What is read of a device that others may write to meanwhile: pieces, each as it stood at its place at a moment.
use Rattle.std.specs.Prelude.{◌≡◌, ℕ, ◌+◌, ◌≤◌, List, [], ◌∷◌, ◌++◌, length, take, drop}
use Rattle.wp_outside.specs.Disk.{Moment, IfKnown}

-- the bytes stand at that place at this moment
abbrev pub Shows : ℕ → List ℕ → Moment → Type 0
Shows at bytes m = take (length bytes) (drop at m.reads) ≡ bytes

-- the device has nothing behind them at this moment
abbrev pub EndsAt : ℕ → List ℕ → Moment → Type 0
EndsAt at bytes m = length m.reads ≤ at + length bytes

-- Going up, each piece was shown at its place, at a moment no earlier than that of the piece below it. The first piece
-- was shown at the newest moment of old.
abbrev pub Patch : ℕ → List Moment → List Moment → List ℕ → Type 0
Patch at old [] text = IfKnown old (Shows at text)
Patch at old (m ∷ more) text = (below : List ℕ) × (piece : List ℕ) × (text ≡ below ++ piece) × Patch at old more below × Shows (at + length below) piece m

-- the text was put together so from that place on, while the device went from old to new
pub record IsPatched (at : ℕ) (old new : List Moment) (text : List ℕ) : Type 0 where
  pub more : List Moment
  pub came : new ≡ more ++ old
  pub patch : Patch at old more text

-- a text with P was
pub record ReadsTo (at : ℕ) (old new : List Moment) (P : List ℕ → Type 0) : Type 0 where
  pub text : List ℕ
  pub is : P text
  pub patched : IsPatched at old new text
