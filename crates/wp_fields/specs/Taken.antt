-- What taking a field from the front of the bytes leaves.
use Rattle.std.specs.Prelude.{◌≡◌, ◌≤◌, ◌<◌, ℕ, List, length, drop, Option, Some, None}

-- A field of n bytes was taken, and the bytes after it are left; or fewer than n bytes were there, and
-- nothing was taken.
abbrev pub TakesField : {X : Type 0} → ℕ → Option X → List ℕ → List ℕ → Type 0
TakesField n (Some field) old new = (n ≤ length old) × (new ≡ drop n old)
TakesField n None old new = (length old < n) × (new ≡ old)
