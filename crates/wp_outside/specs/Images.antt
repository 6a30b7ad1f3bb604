-- The bytes of a disk that was synced are one of its images.
use Rattle.std.specs.Prelude.{ℕ, List, [], ◌∷◌, map, Some, refl}
use Rattle.wp_outside.specs.Disk.{Matches}

pub matches_itself : (bytes : List ℕ) → Matches (map (λ b. Some b) bytes) bytes
matches_itself [] = tt
matches_itself (b ∷ bytes) = (refl, matches_itself bytes)
