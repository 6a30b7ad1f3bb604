-- What calls leave of a seat's notes, and of the turns that it holds.
--
-- Which word says what a call leaves, from the narrowest to the widest:
-- noting, noting_only, seeing, with_participant  an equation: the seat is as it was but for this
-- GoesOn       one step or a few, while turns may be held: the seat is as it was but for the states and turns that are named and for its
--              notes, of which those that fail the test are there still
-- HoldsTurn    between such steps: the turn taken last, with its state, and what is held beneath (in Turns)
-- Taken, TookLog, Given   a turn was taken, or taken with all of the history seen, or given (in Turns)
-- GoesOnWith, GoesOnAs   a stage of a call, while turns may be held: as ContinuesWith and Continues say it of a whole one (in Calls)
-- ContinuesWith, Continues   a whole call, which begins and ends with no turn held: the seat may have seen more, is else the participant
--              that is named, and has the notes of the kind that is named, or all that need no turn (in Calls)
use Rattle.std.specs.Prelude.{◌≡◌, ℕ, ◌≤◌, ◌||◌, Bool, true, false, List, ◌∷◌, Option, Some}
use Rattle.wp_judge.specs.Words.{CommitPair}
use Rattle.wp_model.specs.History.{changes_of, is_changed}
use Rattle.wp_model.specs.Legal.{IsLegal}
use Rattle.wp_model.specs.PreparedSets.{PreparedSets, NoneDelayed}
use Rattle.wp_model.specs.Snapshots.{Snapshots, NoOldCommits}
use Rattle.wp_model.specs.declared.entry.Entry.{Entry}
use Rattle.wp_core.specs.Cache.{pair_at}
use Rattle.wp_core.specs.Changes.{sees}
use Rattle.wp_core.specs.Entries.{transaction_of}
use Rattle.wp_core.specs.Notes.{gives_guard, is_name}
use Rattle.wp_core.specs.Sound.Actors.{StartsWith}
use Rattle.wp_core.specs.Sound.Views.{guarded_by}
use Rattle.wp_core.specs.Steps.{give_turn}
use Rattle.wp_core.specs.States.{Content}
use Rattle.wp_core.specs.Turns.{Turn}
use Rattle.wp_core.specs.Views.{Fact, words_stay, undecided_at, prior_values, unprepared, unchanged, delayed_flag_stays, old_flag_stays}
use Rattle.wp_core.specs.World.{Actor, Participant, World}
use Rattle.wp_rule.specs.Knows.{Noted}
use Rattle.wp_shared.specs.Seats.{SharedState, SeatState, Stands}

-- ---- which facts

-- none
abbrev pub no_fact : Fact → Bool
no_fact fact = false

-- the turn guards it
abbrev pub is_under : Turn → Fact → Bool
is_under turn fact = gives_guard (guarded_by fact) (give_turn turn)

-- the fact is about the transaction of this name
abbrev pub is_about : Option (List ℕ) → Fact → Bool
is_about name (undecided_at other p) = is_name name other
is_about name (prior_values other p batch) = is_name name other
is_about name (unprepared other) = is_name name other
is_about name (unchanged other key n) = is_name name other
is_about name other = false

-- it says that a key is unchanged, which the entry changes
abbrev pub is_of_changed : List Entry → Entry → Fact → Bool
is_of_changed history entry (unchanged name key n) = is_changed (changes_of history entry) key
is_of_changed history entry other = false

-- the entry, which joins this history, ends what the fact says: it is about the entry's transaction, or says that a key is unchanged which
-- the entry changes
abbrev pub is_ended_by : List Entry → Entry → Fact → Bool
is_ended_by history entry fact = is_of_changed history entry fact || is_about (transaction_of history entry) fact

-- what a flag is
abbrev pub is_flag : Fact → Bool
is_flag (delayed_flag_stays value) = true
is_flag (old_flag_stays value) = true
is_flag other = false

-- ---- the actor and the seat

-- with one note more
abbrev pub with_note : Fact → Actor → Actor
with_note fact a = record a { notes = fact ∷ a.notes }

-- with these notes in place of its own
abbrev pub with_notes : List Fact → Actor → Actor
with_notes notes a = record a { notes = notes }

-- the seat with this actor
abbrev pub seat_of : SeatState → Actor → SeatState
seat_of s a = record s { knows = a }

-- the seat with one note more
abbrev pub noting : Fact → SeatState → SeatState
noting fact s = seat_of s (with_note fact s.knows)

-- the seat with these notes in place of its own
abbrev pub noting_only : List Fact → SeatState → SeatState
noting_only notes s = seat_of s (with_notes notes s.knows)

-- the seat, which has seen this history
abbrev pub seeing : List Entry → SeatState → SeatState
seeing history s = seat_of s (sees history s.knows)

-- the seat as this participant
abbrev pub with_participant : Participant → SeatState → SeatState
with_participant p s = seat_of s (record s.knows { participant = p })

-- The seat holds these states by these turns now, and is otherwise as it was but for its notes. Of those that do not pass the
-- test none is gone.
pub record GoesOn (test : Fact → Bool) (held : List Content) (turns : List ℕ) (old new : SeatState) : Type 0 where
  pub same : new ≡ record old { knows = record old.knows { held = held; notes = new.knows.notes }; turns = turns }
  pub noted : (fact : Fact) → test fact ≡ false → Noted old.knows fact → Noted new.knows fact

-- the seat has seen this history, which is all of a world that is reached now, and is otherwise as it was
pub record SawHistory {D : Type 0} (z : SharedState D) (old new : SeatState) : Type 0 where
  pub history : List Entry
  pub seat : new ≡ seeing history old
  pub grown : StartsWith history old.knows.participant.seen
  pub legal : IsLegal history
  pub world : World
  pub stands : Stands z new world
  pub is : world.writes.history ≡ history

-- ---- what is noted with a turn

-- a flag that is noted is 0 exactly where there is nothing
pub record FlagTells (a : Actor) (flag : ℕ → Fact) (none : Type 0) : Type 0 where
  pub value : ℕ
  pub noted : Noted a (flag value)
  pub empty : value ≡ 0 → none
  pub down : none → value ≡ 0

abbrev pub DelayedFlagTells : Actor → PreparedSets → Type 0
DelayedFlagTells a t = FlagTells a delayed_flag_stays (NoneDelayed t)

abbrev pub OldFlagTells : Actor → Snapshots → Type 0
OldFlagTells a m = FlagTells a old_flag_stays (NoOldCommits m)

-- each pair of these words has a decision up to this number
abbrev pub ArePublished : ℕ → List ℕ → Type 0
ArePublished n words = (place : ℕ) (pair : CommitPair) → pair_at words place ≡ Some pair → pair.decision ≤ n

-- it noted the bound and the words of the cache, and each pair there is published
pub record KnowsWords (a : Actor) (published : ℕ) : Type 0 where
  pub bound : ℕ
  pub words : List ℕ
  pub noted : Noted a (words_stay bound words)
  pub are_published : ArePublished published words
