-- How the pairs of a record are kept, and what has to be so before they are, and is then.
use Rattle.std.specs.Prelude.{◌≡◌, ◌≢◌, ◌⊎◌, ℕ, suc, ◌≤◌, Bool, List, [], ◌∷◌, ◌++◌, length, Option, Some, None, if◌then◌else◌}
use Rattle.wp_model.specs.declared.entry.Entry.{Entry}
use Rattle.wp_judge.specs.Words.{CommitPair, commit_pair, fits}
use Rattle.wp_core.specs.Cache.{cache_place, pair_at, with_pair}
use Rattle.wp_core.specs.Entries.{pair_by, pending_pair}
use Rattle.wp_core.specs.States.{WriteState}
use Rattle.wp_core.specs.Views.{Fact, words_stay, pair_delayed}
use Rattle.wp_core.specs.World.{Actor}
use Rattle.wp_rule.specs.Knows.{Noted}
use Rattle.wp_commits.specs.Bound.{BoundBecomes, bound_with, bound_for}
use Rattle.wp_commits.specs.Cleared.{IsCleared, IsReadyAt}
use Rattle.wp_commits.specs.Notes.{is_of_words, is_of_delayed, is_of_place}
use Rattle.wp_commits.specs.declared.way.Way.{Way}
use Rattle.wp_commits.specs.declared.way.Way.TheVariants.{Undecided, InWord, Delayed}

-- how the pair is kept that an entry decides, if it decides one, in a cache of so many words
abbrev pub way_of : ℕ → Option CommitPair → Way
way_of cells None = Undecided
way_of cells (Some pair) = if fits cells pair then InWord pair.number pair.decision else Delayed pair.number pair.decision

-- ... that each of these entries decides, of which the first has this number
abbrev pub ways_of : ℕ → ℕ → List Entry → List Way
ways_of cells n [] = []
ways_of cells n (entry ∷ entries) = way_of cells (pair_by n entry) ∷ ways_of cells (suc n) entries

-- ... that the pending record decides
abbrev pub ways_in : ℕ → WriteState → List Way
ways_in cells d = ways_of cells (suc (length d.history)) d.pending

-- ... and the entry of it that comes next
abbrev pub next_way_in : ℕ → WriteState → Way
next_way_in cells d = way_of cells (pending_pair d.history d.pending)

-- something is cleared before it
abbrev pub Clears : Way → Type 0
Clears Undecided = ⊥
Clears other = Unit {0}

-- before one of them
abbrev pub AnyClears : List Way → Type 0
AnyClears [] = ⊥
AnyClears (way ∷ ways) = Clears way ⊎ AnyClears ways

-- ---- before

-- the bound rose for the pairs that are kept in these ways, and the words are as they were
abbrev pub RisesFor : ℕ → ℕ → Actor → Actor → List Way → Type 0
RisesFor cells published old new ways = BoundBecomes (λ bound words. bound_for cells published bound words ways) old new

-- ... for all pairs of the pending record
abbrev pub RisesForAll : ℕ → WriteState → Actor → Actor → Type 0
RisesForAll cells d old new = RisesFor cells (length d.history) old new (ways_in cells d)

-- ... for those up to one before which something is cleared
abbrev pub RisesForSome : ℕ → WriteState → Actor → Actor → Type 0
RisesForSome cells d old new =
    (front : List Way) × (way : Way) × (back : List Way) × Clears way × (ways_in cells d ≡ front ++ way ∷ back) × RisesFor cells (length d.history) old new (front ++ way ∷ [])

-- the bound has come to this number
abbrev pub IsReached : Actor → ℕ → Type 0
IsReached a p = (bound : ℕ) × (words : List ℕ) × Noted a (words_stay bound words) × (p ≤ bound)

-- what the pair is to replace may go; or the bound has come to the number of one that is too wide for a word
abbrev pub IsClearedFor : Actor → ℕ → Way → Type 0
IsClearedFor a cells Undecided = Unit {0}
IsClearedFor a cells (InWord p c) = IsCleared a (cache_place cells p)
IsClearedFor a cells (Delayed p c) = IsReached a p

abbrev pub AreCleared : Actor → ℕ → List Way → Type 0
AreCleared a cells [] = Unit {0}
AreCleared a cells (way ∷ ways) = IsClearedFor a cells way × AreCleared a cells ways

-- the pair may be entered
abbrev pub IsReadyFor : Actor → ℕ → ℕ → Way → Type 0
IsReadyFor a cells published Undecided = Unit {0}
IsReadyFor a cells published (InWord p c) = IsReadyAt a published (cache_place cells p)
IsReadyFor a cells published (Delayed p c) = IsReached a p

-- that of the entry that comes next may be
abbrev pub IsReadyForNext : Actor → ℕ → WriteState → Type 0
IsReadyForNext a cells d = IsReadyFor a cells (length d.history) (next_way_in cells d)

abbrev pub AreReady : Actor → ℕ → ℕ → List Way → Type 0
AreReady a cells published [] = Unit {0}
AreReady a cells published (way ∷ ways) = IsReadyFor a cells published way × AreReady a cells published ways

-- the pair is kept elsewhere than in the word at this place
abbrev pub IsElsewhere : ℕ → ℕ → Way → Type 0
IsElsewhere cells place Undecided = Unit {0}
IsElsewhere cells place (InWord p c) = place ≢ cache_place cells p
IsElsewhere cells place (Delayed p c) = Unit {0}

abbrev pub AreElsewhere : ℕ → ℕ → List Way → Type 0
AreElsewhere cells place [] = Unit {0}
AreElsewhere cells place (way ∷ ways) = IsElsewhere cells place way × AreElsewhere cells place ways

-- behind a pair that decides itself others may have its place
abbrev pub MayPrecede : ℕ → Way → List Way → Type 0
MayPrecede cells Undecided ways = Unit {0}
MayPrecede cells (InWord p c) ways = (p ≡ c) ⊎ AreElsewhere cells (cache_place cells p) ways
MayPrecede cells (Delayed p c) ways = Unit {0}

-- of two pairs with one place the earlier one decides itself
abbrev pub AreApart : ℕ → List Way → Type 0
AreApart cells [] = Unit {0}
AreApart cells (way ∷ ways) = MayPrecede cells way ways × AreApart cells ways

-- ---- after

-- a note that the entering of the pair may end
abbrev pub is_of_way : ℕ → Way → Fact → Bool
is_of_way cells Undecided = is_of_words
is_of_way cells (InWord p c) = is_of_place (cache_place cells p)
is_of_way cells (Delayed p c) = is_of_delayed

-- the words once the pair is entered
abbrev pub with_way : List ℕ → Way → List ℕ
with_way words Undecided = words
with_way words (InWord p c) = with_pair words (commit_pair p c)
with_way words (Delayed p c) = words

-- What the bound and the words are once the pairs are entered that are kept in these ways, one after another, each behind one entry
-- more.
abbrev pub entered : ℕ → ℕ → ℕ → List ℕ → List Way → Fact
entered cells published bound words [] = words_stay bound words
entered cells published bound words (way ∷ ways) = entered cells (suc published) (bound_with cells published bound words way) (with_way words way) ways

-- the pair is where it is kept
abbrev pub IsEntered : Actor → ℕ → List ℕ → Way → Type 0
IsEntered a cells words Undecided = Unit {0}
IsEntered a cells words (InWord p c) = pair_at words (cache_place cells p) ≡ Some (commit_pair p c)
IsEntered a cells words (Delayed p c) = Noted a pair_delayed

-- It is wherever the words are noted.
abbrev pub HasEntered : Actor → ℕ → Way → Type 0
HasEntered a cells way = (bound : ℕ) (words : List ℕ) → Noted a (words_stay bound words) → IsEntered a cells words way

-- the bound and the words are what comes of entering the pair of the entry that comes next
abbrev pub EntersNext : ℕ → WriteState → Actor → Actor → Type 0
EntersNext cells d old new =
    (bound : ℕ) (words : List ℕ) → Noted old (words_stay bound words)
    → Noted new (words_stay (bound_with cells (length d.history) bound words (next_way_in cells d)) (with_way words (next_way_in cells d)))

-- words that may be replaced may be so still, but for that of the pair that is kept in this way
abbrev pub StayReady : ℕ → ℕ → Way → Actor → Actor → Type 0
StayReady cells published way old new = (place : ℕ) → IsElsewhere cells place way → IsReadyAt old published place → IsReadyAt new published place
