-- Lists: what is in them, what holds of each item, sums.
use Rattle.std.specs.Prelude.{◌≡◌, ◌⊎◌, ℕ, ◌+◌, Bool, List, [], ◌∷◌, if◌then◌else◌}
use mathlib.Core.Option.{some}
use lib.ListN.{get_elem?}

-- each item, with its place
abbrev pub EachAt : {X : Type 0} → (ℕ → X → Type 0) → List X → Type 0
EachAt {X} P xs = (j : ℕ) (x : X) → get_elem? xs j ≡ some x → P j x

-- the item is in the list
abbrev pub IsIn : {X : Type 0} → X → List X → Type 0
IsIn x [] = ⊥
IsIn x (first ∷ others) = (first ≡ x) ⊎ IsIn x others

abbrev pub one_if : Bool → ℕ
one_if b = if b then 1 else 0

-- the sum over all items
abbrev pub total : {X : Type 0} → (X → ℕ) → List X → ℕ
total f [] = 0
total f (x ∷ others) = f x + total f others
