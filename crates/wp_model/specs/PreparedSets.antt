-- The sets of prepared transactions: the prepared heap, the delayed set and the delayed commits.
use Rattle.std.specs.Prelude.{◌≡◌, ℕ, ◌≤◌, Bool, false, ◌||◌, None, IsTrue, if◌then◌else◌, refl}
use Rattle.std.specs.Ordering.{nat_cmp}
use Rattle.std.specs.Coded.{Coded, code_by, coded×, coded_ℕ}
use Rattle.std.specs.FinSet as set
use Rattle.std.specs.FinMap as map

-- A transaction goes by the number of its Prepare entry.
pub record PreparedSets : Type 0 where
  pub heap : set.FinSet nat_cmp  -- above the evicted bound
  pub delayed : set.FinSet nat_cmp  -- up to it
  pub delayed_commits : map.FinMap nat_cmp ℕ  -- committed, with the pair evicted, or one that fits no word

-- they are stored as their fields, in nested pairs
abbrev pub prepared_sets_code : Coded PreparedSets
prepared_sets_code =
    code_by (set.FinSet nat_cmp × (set.FinSet nat_cmp × map.FinMap nat_cmp ℕ))
    (coded× (set.code coded_ℕ) (coded× (set.code coded_ℕ) (map.code coded_ℕ coded_ℕ)))
    (λ t. (t.heap, (t.delayed, t.delayed_commits)))
    (λ p. record { heap = p.0; delayed = p.1.0; delayed_commits = p.1.1 })
    (λ _. refl)

-- no number is prepared
abbrev pub nothing_prepared : PreparedSets
nothing_prepared = record { heap = set.empty; delayed = set.empty; delayed_commits = map.empty }

-- whether p is in the heap or in the delayed set
abbrev pub is_prepared : PreparedSets → ℕ → Bool
is_prepared t p = set.contains t.heap p || set.contains t.delayed p

-- the delayed commits once the pair (p, c) was evicted: it is kept where p is prepared
abbrev pub commits_with : PreparedSets → ℕ → ℕ → map.FinMap nat_cmp ℕ
commits_with t p c = if is_prepared t p then map.insert t.delayed_commits p c else t.delayed_commits

-- p is the least prepared number
pub record IsSmallest (t : PreparedSets) (p : ℕ) : Type 0 where
  pub prepared : IsTrue (is_prepared t p)
  pub least : (q : ℕ) → IsTrue (is_prepared t q) → p ≤ q

-- no number is prepared
abbrev pub NonePrepared : PreparedSets → Type 0
NonePrepared t = (p : ℕ) → is_prepared t p ≡ false

-- nothing is delayed
abbrev pub NoneDelayed : PreparedSets → Type 0
NoneDelayed t = ((p : ℕ) → set.contains t.delayed p ≡ false) × ((p : ℕ) → map.get t.delayed_commits p ≡ None)
