-- The delayed set with the delayed commits, as its contracts see it.
use Rattle.std.specs.Prelude.{◌≡◌, ℕ, ◌<◌, ◌≤◌, nat_le, List, [], ◌∷◌, map, length, get_or, Option, Some, None, Result, MatchResult, refl, if◌then◌else◌}
use Rattle.std.specs.Ordering.{nat_cmp}
use Rattle.std.specs.Coded.{Coded, code_by, coded×, coded_ℕ}
use Rattle.std.specs.FinSet as set
use Rattle.std.specs.FinMap as finite
use Rattle.wp_prepared.specs.declared.delayed.Delayed.{Delayed}

-- numbers, the commits of some of them, and how many more numbers fit in the memory that is there
pub record RoomySet : Type 0 where
  pub numbers : set.FinSet nat_cmp
  pub commits : finite.FinMap nat_cmp ℕ
  pub room : ℕ

-- it is stored as its fields, in nested pairs
abbrev pub roomy_set_code : Coded RoomySet
roomy_set_code =
    code_by (set.FinSet nat_cmp × (finite.FinMap nat_cmp ℕ × ℕ))
    (coded× (set.code coded_ℕ) (coded× (finite.code coded_ℕ coded_ℕ) coded_ℕ))
    (λ s. (s.numbers, (s.commits, s.room)))
    (λ p. record { numbers = p.0; commits = p.1.0; room = p.1.1 })
    (λ _. refl)

-- ---- what a list of delayed numbers stands for

abbrev pub number_of : Delayed → ℕ
number_of x = x.number

abbrev pub numbers_in : List Delayed → List ℕ
numbers_in xs = map number_of xs

abbrev pub with_commit : ℕ → Option ℕ → List (ℕ × ℕ) → List (ℕ × ℕ)
with_commit p None others = others
with_commit p (Some c) others = (p, c) ∷ others

-- each number that has a commit, with that
abbrev pub commits_in : List Delayed → List (ℕ × ℕ)
commits_in [] = []
commits_in (x ∷ xs) = with_commit x.number x.commit (commits_in xs)

-- ---- the least commit, and the first that is at most m

abbrev pub IsFrom : ℕ → Option ℕ → Type 0
IsFrom least None = Unit {0}
IsFrom least (Some c) = least ≤ c

-- none of their commits is below this
abbrev pub AreFrom : ℕ → List Delayed → Type 0
AreFrom least [] = Unit {0}
AreFrom least (x ∷ xs) = IsFrom least x.commit × AreFrom least xs

abbrev pub passed_or : ℕ → ℕ → Option ℕ → Option (ℕ × ℕ) → Option (ℕ × ℕ)
passed_or m p None others = others
passed_or m p (Some c) others = if nat_le c m then Some (p, c) else others

-- the first number whose commit is at most m, with that
abbrev pub first_passed : ℕ → List Delayed → Option (ℕ × ℕ)
first_passed m [] = None
first_passed m (x ∷ xs) = passed_or m x.number x.commit (first_passed m xs)

-- ---- a search

-- p is at i, or belongs there
abbrev pub IsPlace : List ℕ → ℕ → Result ℕ ℕ → Type 0
IsPlace xs p r =
    MatchResult r (λ i. (i < length xs) × (get_or xs i 0 ≡ p)) (λ i. (i ≤ length xs) × ((k : ℕ) → k < i → get_or xs k 0 < p) × ((k : ℕ) → i ≤ k → k < length xs → p < get_or xs k 0))
