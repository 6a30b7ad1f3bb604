-- What a crash leaves of a disk at a moment.
use Rattle.std.specs.Prelude.{◌≡◌, List, ℕ, drop}
use Rattle.wp_outside.specs.Disk.{Moment, IsImage, IfKnown, synced}

-- each image of the moment has P
abbrev pub Leaves : (List ℕ → Type 0) → Moment → Type 0
Leaves P m = (image : List ℕ) → IsImage m image → P image

-- each image of the moment has P from that place on
abbrev pub LeavesFrom : ℕ → (List ℕ → Type 0) → Moment → Type 0
LeavesFrom place P = Leaves (λ image. P (drop place image))

-- where the disk is known, it has these bytes, synced: a crash leaves them and nothing else
abbrev pub IsSynced : List ℕ → List Moment → Type 0
IsSynced bytes moments = IfKnown moments (λ m. m ≡ synced bytes)
