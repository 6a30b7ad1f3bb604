-- What a seat knows of the evicted bound and of the words, and how far the bound rises before pairs go.
use Rattle.std.specs.Prelude.{ℕ, nat_le, if◌then◌else◌, List, [], ◌∷◌, Option, Some, None}
use Rattle.wp_judge.specs.Words.{CommitPair}
use Rattle.wp_core.specs.Cache.{cache_place, pair_at}
use Rattle.wp_core.specs.Views.{words_stay}
use Rattle.wp_core.specs.World.{Actor}
use Rattle.wp_rule.specs.Bound.{bound_past}
use Rattle.wp_rule.specs.Knows.{Noted}
use Rattle.wp_commits.specs.declared.way.Way.{Way}
use Rattle.wp_commits.specs.declared.way.Way.TheVariants.{Undecided, InWord, Delayed}

-- it noted the bound and the words of the cache
abbrev pub NotedWords : Actor → Type 0
NotedWords a = (bound : ℕ) × (words : List ℕ) × Noted a (words_stay bound words)

-- the words are as they were, and the bound is what comes of it and of them
abbrev pub BoundBecomes : (ℕ → List ℕ → ℕ) → Actor → Actor → Type 0
BoundBecomes after old new = (bound : ℕ) (words : List ℕ) → Noted old (words_stay bound words) → Noted new (words_stay (after bound words) words)

-- the bound once a pair with this decision may go: it is no less than before, and no less than the decision
abbrev pub raised : ℕ → ℕ → ℕ → ℕ → ℕ
raised cells published bound decision = if nat_le decision bound then bound else bound_past cells published decision

-- the bound once the pair of a word, if there is one, may go
abbrev pub bound_after : ℕ → ℕ → ℕ → Option CommitPair → ℕ
bound_after cells published bound None = bound
bound_after cells published bound (Some pair) = raised cells published bound pair.decision

-- the bound once the pair may be entered that is kept in this way
abbrev pub bound_with : ℕ → ℕ → ℕ → List ℕ → Way → ℕ
bound_with cells published bound words Undecided = bound
bound_with cells published bound words (InWord p c) = bound_after cells published bound (pair_at words (cache_place cells p))
bound_with cells published bound words (Delayed p c) = if nat_le p bound then bound else p

-- ... and all those that are kept in these ways, one after another
abbrev pub bound_for : ℕ → ℕ → ℕ → List ℕ → List Way → ℕ
bound_for cells published bound words [] = bound
bound_for cells published bound words (way ∷ ways) = bound_for cells published (bound_with cells published bound words way) words ways
