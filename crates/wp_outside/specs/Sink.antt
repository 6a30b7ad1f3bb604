-- What a write does to the bytes that a sink holds, where it shows them.
use Rattle.std.specs.Prelude.{◌≡◌, ℕ, ◌<◌, ◌≤◌, List, ◌++◌, length, take, Option, Result, Ok, Err}
use Rattle.std.specs.Io.KnownBytes.{Appends}
use Rattle.wp_outside.specs.declared.failed.Failed.{Failed}

-- a prefix of the piece was taken
abbrev pub AppendsPrefix : Option (List ℕ) → Option (List ℕ) → List ℕ → Type 0
AppendsPrefix old new piece = (front back : List ℕ) × (piece ≡ front ++ back) × Appends old new front

-- the first n bytes of the piece were taken, at least one of a piece that has any; a failure has taken a prefix
abbrev pub Writes : Option (List ℕ) → Option (List ℕ) → List ℕ → Result ℕ Failed → Type 0
Writes old new piece (Ok n) = (n ≤ length piece) × (0 < length piece → 1 ≤ n) × Appends old new (take n piece)
Writes old new piece (Err e) = AppendsPrefix old new piece
