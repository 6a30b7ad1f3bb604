-- The queue of the prepared heap: numbers in ascending order, of which some are erased.
use Rattle.std.specs.Prelude.{◌≡◌, ℕ, zero, suc, ◌<◌, true, false, List, [], ◌∷◌, ◌++◌, if◌then◌else◌}
use Rattle.std.specs.Ordering.{nat_cmp}
use Rattle.std.specs.FinSet as set
use Rattle.wp_prepared.specs.declared.heap.Queued.{Queued}

-- the numbers that are not erased
abbrev pub standing : List Queued → set.FinSet nat_cmp
standing [] = set.empty
standing (x ∷ xs) = if x.erased then standing xs else set.insert (standing xs) x.number

-- each number is above n
abbrev pub AreAbove : ℕ → List Queued → Type 0
AreAbove n [] = Unit {0}
AreAbove n (x ∷ xs) = (n < x.number) × AreAbove n xs

-- each number is below those behind it
abbrev pub AreRising : List Queued → Type 0
AreRising [] = Unit {0}
AreRising (x ∷ xs) = AreAbove x.number xs × AreRising xs

-- p is at i
abbrev pub IsAt : List Queued → ℕ → ℕ → Type 0
IsAt [] p i = ⊥
IsAt (x ∷ xs) p zero = x.number ≡ p
IsAt (x ∷ xs) p (suc i) = IsAt xs p i

-- p is none of the numbers
abbrev pub AreApart : ℕ → List Queued → Type 0
AreApart p [] = Unit {0}
AreApart p (x ∷ xs) = (p ≡ x.number → ⊥) × AreApart p xs

-- each number is erased
abbrev pub AreErased : List Queued → Type 0
AreErased [] = Unit {0}
AreErased (x ∷ xs) = (x.erased ≡ true) × AreErased xs

-- the first number, if there is one, is not erased
abbrev pub FirstStands : List Queued → Type 0
FirstStands [] = Unit {0}
FirstStands (x ∷ xs) = x.erased ≡ false

-- the last number, if there is one, is not erased
abbrev pub LastStands : List Queued → Type 0
LastStands [] = Unit {0}
LastStands (x ∷ []) = x.erased ≡ false
LastStands (x ∷ y ∷ ys) = LastStands (y ∷ ys)

-- the numbers rise, and those at both ends are not erased
pub record IsQueue (xs : List Queued) : Type 0 where
  pub rising : AreRising xs
  pub first : FirstStands xs
  pub last : LastStands xs

-- just the erased numbers before the first standing one are taken out
pub record TrimsFront (old new : List Queued) : Type 0 where
  pub gone : List Queued
  pub erased : AreErased gone
  pub is : old ≡ gone ++ new
  pub first : FirstStands new

-- just the erased numbers behind the last standing one are taken out
pub record TrimsBack (old new : List Queued) : Type 0 where
  pub gone : List Queued
  pub erased : AreErased gone
  pub is : old ≡ new ++ gone
  pub last : LastStands new
