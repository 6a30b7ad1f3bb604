-- What the steps of a reading leave of a seat.
use Rattle.std.specs.Prelude.{◌≡◌, ◌≢◌, ℕ, ◌≤◌, ◌^◌, Bool, List, Some}
use Rattle.wp_judge.specs.declared.observed.Observed.{Observed}
use Rattle.wp_judge.specs.declared.observed.Load.{Load}
use Rattle.wp_judge.specs.declared.observed.Load.TheVariants.{FirstWord, FirstMax, DelayedFlag, InPrepared, SecondWord, SecondMax, OldFlag, IsOldCommit}
use Rattle.wp_judge.specs.declared.observed.Asked.TheVariants as asked
use Rattle.wp_judge.specs.Order.{ask, judgement}
use Rattle.wp_core.specs.Cache.{cache_place}
use Rattle.wp_core.specs.Changes.{loaded}
use Rattle.wp_core.specs.Lists.{IsIn}
use Rattle.wp_core.specs.Reading.{Registration, snapshot_of}
use Rattle.wp_core.specs.Sound.Reader.{IsRight}
use Rattle.wp_core.specs.Views.{Fact}
use Rattle.wp_core.specs.World.{Actor, World}
use Rattle.wp_rule.specs.Words.{IsAt}
use Rattle.wp_rule.specs.declared.word.Word.{Word}
use Rattle.wp_rule.specs.declared.word.Word.TheVariants as shared
use Rattle.wp_shared.specs.Calls.{IsLoose}
use Rattle.wp_shared.specs.Seats.{SharedState, SeatState, place_at}

-- the seat, where this is what it has loaded of the version that it reads
abbrev pub reading : SeatState → Observed → SeatState
reading s r = record s { knows = record s.knows { reading = Some r } }

-- what was noted without a turn is noted still
abbrev pub KeepsNotes : List Fact → List Fact → Type 0
KeepsNotes before after = (fact : Fact) → IsLoose fact → IsIn fact before → IsIn fact after

-- The seat reads this, and is as it was but for that. Where it has the answer, that is right of the history that the seat has
-- seen. It knows of how many bits the cache is.
pub record Reads {D : Type 0} (z : SharedState D) (old new : SeatState) (r : Observed) : Type 0 where
  pub seat : new ≡ reading old r
  pub right : (visible : Bool) → judgement r ≡ Some visible → IsRight old.knows.participant.seen r.version r.snapshot visible
  pub cells : 2 ^ r.bits ≡ z.cells

-- the seat made this load, in a world of the store
pub record Loads {D : Type 0} (z : SharedState D) (which : Load) (old new : SeatState) (before after : Observed) : Type 0 where
  pub reads : Reads z old new after
  pub world : World
  pub actor : Actor
  pub there : IsAt (place_at z old.by) actor world
  pub is_loaded : after ≡ loaded world which before

-- this load is the next one of the seat's reading
abbrev pub IsNext : SeatState → Observed → Load → Type 0
IsNext s r which = (s.knows.reading ≡ Some r) × (ask r ≡ asked.Load which)

-- the load is of a word, and not a look behind a turn
abbrev pub IsOfWord : Load → Type 0
IsOfWord which = (which ≢ InPrepared) × (which ≢ IsOldCommit)

-- it is the word that this load of a version is of
abbrev pub IsWordFor : ℕ → ℕ → Load → Word → Type 0
IsWordFor cells version FirstWord w = w ≡ shared.Cell (cache_place cells version)
IsWordFor cells version SecondWord w = w ≡ shared.Cell (cache_place cells version)
IsWordFor cells version FirstMax w = w ≡ shared.Max
IsWordFor cells version SecondMax w = w ≡ shared.Max
IsWordFor cells version DelayedFlag w = w ≡ shared.DelayedFlag
IsWordFor cells version OldFlag w = w ≡ shared.OldFlag
IsWordFor cells version other w = ⊥

-- what was loaded, with this word more
abbrev pub with_word : Load → ℕ → Observed → Observed
with_word FirstWord found r = record r { first_word = Some found }
with_word FirstMax found r = record r { first_max = Some found }
with_word DelayedFlag found r = record r { delayed_flag = Some found }
with_word SecondWord found r = record r { second_word = Some found }
with_word SecondMax found r = record r { second_max = Some found }
with_word OldFlag found r = record r { old_flag = Some found }
with_word other found r = r

-- it is what a reader of this version at this snapshot has loaded, in a cache of no more bits than there may be
abbrev pub IsOf : ℕ → Registration → Observed → Type 0
IsOf p snapshot r = (r.version ≡ p) × (snapshot_of r ≡ snapshot) × (r.bits ≤ 16)
