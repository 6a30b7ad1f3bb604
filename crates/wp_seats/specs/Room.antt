-- Room for what the sessions of a script take at once.
use Rattle.std.specs.Prelude.{◌≡◌, ◌<◌, ℕ}

-- an empty list with room for more than so many
abbrev pub HasRoom : (count len capacity : ℕ) → Type 0
HasRoom count len capacity = (len ≡ 0) × (count < capacity)
