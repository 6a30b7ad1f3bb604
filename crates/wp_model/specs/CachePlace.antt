-- The places of the commit cache: it has N words, of which a version has the one at its number modulo N.
use Rattle.std.specs.Prelude.{◌≡◌, ◌≢◌, ℕ, ◌%◌, ◌==◌, Bool, List, [], ◌∷◌, ◌++◌, Option, Some, None}
use Rattle.std.specs.List.{find}

-- the place of a version's word in a cache of so many words
abbrev pub cache_place : ℕ → ℕ → ℕ
cache_place words p = p % words

-- the number has the place of q
abbrev pub shares_place : ℕ → ℕ → ℕ → Bool
shares_place cells q p = cache_place cells p == cache_place cells q

-- none of the others has the place of p
abbrev pub HasOwnPlace : ℕ → ℕ → List ℕ → Type 0
HasOwnPlace cells p [] = Unit {0}
HasOwnPlace cells p (q ∷ others) = (cache_place cells p ≢ cache_place cells q) × HasOwnPlace cells p others

-- no two of the numbers have one place
abbrev pub NoneShare : ℕ → List ℕ → Type 0
NoneShare cells [] = Unit {0}
NoneShare cells (p ∷ others) = HasOwnPlace cells p others × NoneShare cells others

-- p and q, where a p is found; or else what is found behind q
abbrev pub pair_or : ℕ → Option ℕ → Option (ℕ × ℕ) → Option (ℕ × ℕ)
pair_or q None behind = behind
pair_or q (Some p) behind = Some (p, q)

-- the pair that is sought, among numbers that stand behind those in front
abbrev pub crowded_behind : ℕ → List ℕ → List ℕ → Option (ℕ × ℕ)
crowded_behind cells front [] = None
crowded_behind cells front (q ∷ others) = pair_or q (find (shares_place cells q) front) (crowded_behind cells (front ++ q ∷ []) others)

-- The first two of the numbers that have one place, if any have: the second is the earliest that shares the place of an earlier one, and
-- the first is that earlier one.
abbrev pub first_crowded : ℕ → List ℕ → Option (ℕ × ℕ)
first_crowded cells numbers = crowded_behind cells [] numbers

-- these are the two
abbrev pub IsFirstCrowded : ℕ → List ℕ → ℕ → ℕ → Type 0
IsFirstCrowded cells numbers p q = first_crowded cells numbers ≡ Some (p, q)
