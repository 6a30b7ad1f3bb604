-- What it is to take a turn, to hold it, and to give it.
use Rattle.std.specs.Prelude.{◌≡◌, ℕ, nat_lt, Bool, true, false, ◌&&◌, List, [], ◌∷◌, ◌++◌, length, Some, None}
use Rattle.wp_model.specs.declared.entry.Entry.{Entry}
use Rattle.wp_core.specs.Changes.{turn_index, held_without, sees}
use Rattle.wp_core.specs.Conditions.{MayGive}
use Rattle.wp_core.specs.Lists.{IsIn}
use Rattle.wp_core.specs.Sound.Actors.{StartsWith}
use Rattle.wp_core.specs.Steps.{give_turn}
use Rattle.wp_core.specs.States.{Content, writes, prepared, snapshots, store, locks, installed, turn_of}
use Rattle.wp_model.specs.PreparedSets.{NoneDelayed}
use Rattle.wp_model.specs.Snapshots.{NoOldCommits}
use Rattle.wp_core.specs.Turns.{Turn, write_turn, prepared_turn, snapshots_turn, store_turn, locks_turn, tables_turn, turn_holder}
use Rattle.wp_core.specs.Views.{Fact, words_stay, delayed_flag_stays, old_flag_stays}
use Rattle.wp_core.specs.World.{Actor, World, content_of}
use Rattle.wp_rule.specs.Knows.{Noted, KnowsTables, IsStateOf}
use Rattle.wp_rule.specs.Moves.{MayStep}
use Rattle.wp_rule.specs.Plays.{facts_at, with_turn}
use Rattle.wp_parts.specs.Log.{LogState}
use Rattle.wp_parts.specs.Parts.{content, tells, log_first}
use Rattle.wp_parts.specs.declared.turn_value.TurnValue.{TurnValue}
use Rattle.wp_shared.specs.Notes.{no_fact, is_under, seeing, GoesOn, DelayedFlagTells, OldFlagTells, KnowsWords}
use Rattle.wp_shared.specs.Seats.{SharedState, SeatState, IsFree, Stands, place_at}

-- the history that the log's table has
abbrev pub history_in : LogState → List Entry
history_in log = log.state.history

-- ---- in which order turns are taken that are held together

-- which of the turns it is
abbrev pub turn_rank : Turn → ℕ
turn_rank tables_turn = 0
turn_rank write_turn = 1
turn_rank prepared_turn = 2
turn_rank snapshots_turn = 3
turn_rank store_turn = 4
turn_rank locks_turn = 5

-- the turn comes behind each of those whose states are held
abbrev pub comes_last : Turn → List Content → Bool
comes_last turn [] = true
comes_last turn (first ∷ others) = nat_lt (turn_rank (turn_of first)) (turn_rank turn) && comes_last turn others

-- ---- what a seat knows of a turn's state

-- Once it took the turn: in the log nothing is pending, and it noted the words; a flag is 0 exactly where there is nothing; and
-- the tables are those of the last edit.
abbrev pub KnowsTaken : Actor → Content → Type 0
KnowsTaken a (writes t) = (t.pending ≡ []) × KnowsWords a (length t.history)
KnowsTaken a (prepared t) = DelayedFlagTells a t
KnowsTaken a (snapshots m) = OldFlagTells a m
KnowsTaken a (store t) = Unit {0}
KnowsTaken a (locks t) = Unit {0}
KnowsTaken a (installed e) = KnowsTables a e.last

-- to give the turn
abbrev pub KnowsToGive : Actor → Content → Type 0
KnowsToGive a (writes t) = t.pending ≡ []
KnowsToGive a (prepared t) = NoneDelayed t → Noted a (delayed_flag_stays 0)
KnowsToGive a (snapshots m) = NoOldCommits m → Noted a (old_flag_stays 0)
KnowsToGive a (store t) = Unit {0}
KnowsToGive a (locks t) = Unit {0}
KnowsToGive a (installed e) = KnowsTables a e.last

-- ---- what lies in a turn's slot

-- The turn was free and is the seat's now. The value is the turn's state, which the seat has, with what the turn guards besides
-- as notes. All is so as it has to be to give it.
pub record TookPart {D : Type 0} (z : SharedState D) (turn : Turn) (old new : SeatState) (part : TurnValue D) : Type 0 where
  pub world : World
  pub before : Stands z old world
  pub free : turn_holder world.holders turn ≡ None
  pub is : content part ≡ Some (content_of world turn)
  pub told : tells z.first part
  pub ready : MayGive world turn
  pub knows : new.knows ≡ with_turn turn world old.knows
  pub stands : (w : World) × Stands z new w

-- The value may go home: it is the state of the turn, which was taken last, as the seat left it, and the turn may be given.
pub record MayGivePart {D : Type 0} (z : SharedState D) (turn : Turn) (s : SeatState) (part : TurnValue D) : Type 0 where
  pub state : Content
  pub is : content part ≡ Some state
  pub of_turn : turn ≡ turn_of state
  pub told : tells z.first part
  pub held : IsIn state s.knows.held
  pub others : List ℕ
  pub last_taken : s.turns ≡ turn_index turn ∷ others
  pub may : MayStep (place_at z s.by) s.knows (give_turn turn)

-- The turn is given: the seat has its state no more, nor what it noted under the turn.
pub record GavePart {D : Type 0} (z : SharedState D) (turn : Turn) (old new : SeatState) : Type 0 where
  pub same_table : new.table ≡ old.table
  pub same_by : new.by ≡ old.by
  pub turns : old.turns ≡ turn_index turn ∷ new.turns
  pub knows : new.knows ≡ record old.knows { held = held_without old.knows.held turn; notes = new.knows.notes }
  pub notes : (fact : Fact) → is_under turn fact ≡ false → Noted old.knows fact → Noted new.knows fact
  pub stands : (w : World) × Stands z new w

-- ---- a turn

-- A live seat of the store took the state's turn last, and has the state as it left it. Before, it had taken the turns beneath, and
-- has their states.
pub record HoldsTurn {D : Type 0} (z : SharedState D) (s : SeatState) (table : Content) (others : List Content) (beneath : List ℕ) : Type 0 where
  pub same_table : s.table ≡ z.table
  pub live : s.knows.live ≡ true
  pub held : s.knows.held ≡ table ∷ others
  pub turns : s.turns ≡ turn_index (turn_of table) ∷ beneath

-- The seat took the state's turn, which was free, with the state, as a reached world had it. It noted what the turn guards besides.
pub record Taken {D : Type 0} (z : SharedState D) (old new : SeatState) (table : Content) : Type 0 where
  pub world : World
  pub before : Stands z old world
  pub free : turn_holder world.holders (turn_of table) ≡ None
  pub is : IsStateOf world table
  pub seat : new ≡ record old { knows = record old.knows { held = table ∷ old.knows.held; notes = facts_at (turn_of table) world ++ old.knows.notes }; turns = turn_index (turn_of table) ∷ old.turns }
  pub goes : GoesOn no_fact (table ∷ old.knows.held) (turn_index (turn_of table) ∷ old.turns) old new
  pub holds : HoldsTurn z new table old.knows.held old.turns
  pub knows : KnowsTaken new.knows table
  pub stands : (w : World) × Stands z new w

-- The seat took the write turn, which was free, with this log, which is the store's and as a reached world had it. It noted the bound
-- and the words of that world, and has seen the whole history since.
pub record TookLog {D : Type 0} (z : SharedState D) (old new : SeatState) (log : LogState) : Type 0 where
  pub found : World
  pub before : Stands z old found
  pub free : turn_holder found.holders write_turn ≡ None
  pub found_is : found.writes ≡ log.state
  pub seat : new ≡ record old { knows = record (sees log.state.history old.knows) { held = writes log.state ∷ old.knows.held; notes = words_stay found.max_evicted found.cache ∷ old.knows.notes }; turns = 0 ∷ old.turns }
  pub goes : GoesOn no_fact (writes log.state ∷ old.knows.held) (0 ∷ old.turns) (seeing log.state.history old) new
  pub holds : HoldsTurn z new (writes log.state) old.knows.held old.turns
  pub knows : KnowsTaken new.knows (writes log.state)
  pub seen : new.knows.participant.seen ≡ log.state.history
  pub grown : StartsWith log.state.history old.knows.participant.seen
  pub of_store : log_first z.first ≡ Some log.first
  pub world : World
  pub stands : Stands z new world
  pub is : world.writes ≡ log.state

-- The turn is given: the seat has its state no more, nor what it noted under the turn. It is free where it held no other.
pub record Given {D : Type 0} (z : SharedState D) (turn : Turn) (old new : SeatState) (others : List Content) (beneath : List ℕ) : Type 0 where
  pub goes : GoesOn (is_under turn) (held_without others turn) beneath old new
  pub free : held_without others turn ≡ [] → beneath ≡ [] → IsFree z.table new
  pub stands : (w : World) × Stands z new w
