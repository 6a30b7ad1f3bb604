-- Which steps of the machine a call makes at one load.
use Rattle.std.specs.Prelude.{ℕ, zero, suc, ◌-◌, ◌==◌, List, [], ◌∷◌, if◌then◌else◌, is_some}
use Rattle.std.specs.FinMap as finite
use Rattle.wp_model.specs.PreparedSets.{is_prepared}
use Rattle.wp_model.specs.Snapshots.{Snapshots}
use Rattle.wp_judge.specs.Words.{CommitPair}
use Rattle.wp_core.specs.Steps.{Step, add_delayed_commit, add_old_commit, note}
use Rattle.wp_core.specs.Views.{passed, in_old_commits, apart, none_waits}
use Rattle.wp_core.specs.World.{World}
use Rattle.wp_shared.specs.Seats.{SeatState}
use Rattle.wp_shared.specs.Notes.{noting}

-- that the pair of the word at this place may go is noted
abbrev pub noting_all : ℕ → CommitPair → List Step
noting_all place pair = note (passed place pair) ∷ note (in_old_commits place pair) ∷ note (apart place pair) ∷ []

-- the seat with these notes
abbrev pub noted_all : ℕ → CommitPair → SeatState → SeatState
noted_all place pair s = noting (apart place pair) (noting (in_old_commits place pair) (noting (passed place pair) s))

-- the pair becomes a delayed commit where its number is prepared
abbrev pub delaying : CommitPair → World → List Step
delaying pair w = if is_prepared w.prepared pair.number then add_delayed_commit pair ∷ [] else []

-- where the delayed flag is 0, that no prepared number waits is noted
abbrev pub noting_none_waits : World → List Step
noting_none_waits w = if w.delayed_flag == 0 then note none_waits ∷ [] else []

-- p is kept under each live number among the next so many from s on
abbrev pub keeping_from : Snapshots → ℕ → ℕ → ℕ → List Step
keeping_from m p zero s = []
keeping_from m p (suc more) s = if is_some (finite.get m s) then add_old_commit s p ∷ keeping_from m p more (suc s) else keeping_from m p more (suc s)

-- p is kept under each live number from p on and below c
abbrev pub keeping : ℕ → ℕ → World → List Step
keeping p c w = keeping_from w.snapshots p (c - p) p
