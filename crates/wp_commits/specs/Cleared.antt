-- Words of the commit cache that are ready to be replaced.
use Rattle.std.specs.Prelude.{◌≡◌, ◌≢◌, ◌⊎◌, ℕ, suc, true, ◌<◌, ◌≤◌, List, length, Some, None}
use Rattle.wp_model.specs.declared.entry.Entry.{Entry}
use Rattle.wp_model.specs.Decision.{decision_of}
use Rattle.wp_judge.specs.Words.{CommitPair, commit_pair, fits}
use Rattle.wp_core.specs.Cache.{cache_place, pair_at}
use Rattle.wp_core.specs.Entries.{pending_pair, pairs_of}
use Rattle.wp_core.specs.Lists.{IsIn}
use Rattle.wp_core.specs.States.{WriteState}
use Rattle.wp_core.specs.Views.{passed, in_old_commits, apart, words_stay}
use Rattle.wp_core.specs.World.{Actor}
use Rattle.wp_rule.specs.Knows.{Noted}

-- The word at this place has the pair (p, c), which is published.
pub record IsThere (a : Actor) (history : List Entry) (place p c : ℕ) : Type 0 where
  pub bound : ℕ
  pub words : List ℕ
  pub noted : Noted a (words_stay bound words)
  pub within : place < length words
  pub there : pair_at words place ≡ Some (commit_pair p c)
  pub published : c ≤ length history
  pub decided : decision_of history p ≡ Some c
  pub ordered : p ≤ c

-- a pair of the pending record, which fits a word, is to come into the word at this place
abbrev pub IsWanted : ℕ → WriteState → ℕ → Type 0
IsWanted cells d place = (pair : CommitPair) × IsIn pair (pairs_of (suc (length d.history)) d.pending) × (place ≡ cache_place cells pair.number) × (fits cells pair ≡ true)

-- the word at this place has no pair
abbrev pub IsEmptyAt : Actor → ℕ → Type 0
IsEmptyAt a place = (bound : ℕ) × (words : List ℕ) × Noted a (words_stay bound words) × (pair_at words place ≡ None)

-- this pair of the word at this place may go
abbrev pub MayGoFrom : Actor → ℕ → CommitPair → Type 0
MayGoFrom a place gone = Noted a (passed place gone) × Noted a (in_old_commits place gone) × Noted a (apart place gone)

-- the word at this place may be replaced
abbrev pub IsCleared : Actor → ℕ → Type 0
IsCleared a place = IsEmptyAt a place ⊎ ((gone : CommitPair) × MayGoFrom a place gone)

-- The word at this place has the pair of a version that decided itself, and is published: a snapshot sees it or is below it,
-- and it is no prepared transaction. So nothing but the bound has to be ready for it to go.
abbrev pub DecidesItself : Actor → ℕ → ℕ → Type 0
DecidesItself a published place =
    (bound : ℕ) × (words : List ℕ) × (n : ℕ) × Noted a (words_stay bound words) × (n ≤ published) × (pair_at words place ≡ Some (commit_pair n n))

-- the pair of the pending entry is not in its word yet
abbrev pub IsUnentered : Actor → ℕ → WriteState → Type 0
IsUnentered a cells t =
    (pair : CommitPair) → pending_pair t.history t.pending ≡ Some pair
    → (bound : ℕ) × (words : List ℕ) × Noted a (words_stay bound words) × (pair_at words (cache_place cells pair.number) ≢ Some pair)

-- the word at this place may be replaced, or that takes no more than the bound
abbrev pub IsReadyAt : Actor → ℕ → ℕ → Type 0
IsReadyAt a published place = IsCleared a place ⊎ DecidesItself a published place
