-- A record between its making and the history: what the seat holds and has noted, and what each stage leaves of it.
use Rattle.std.specs.Prelude.{◌≡◌, ◌≢◌, ◌≤◌, ℕ, suc, Bool, true, false, ◌||◌, List, [], ◌∷◌, ◌++◌, length, is_some, Some, Result, Ok, Err}
use Rattle.wp_judge.specs.Words.{CommitPair, fits}
use Rattle.wp_model.specs.declared.change.Change.{Change}
use Rattle.wp_model.specs.declared.entry.Entry.{Entry}
use Rattle.wp_model.specs.declared.entry.Entry.TheVariants.{Prepare, Commit, Close}
use Rattle.wp_model.specs.History.{is_prepare}
use Rattle.wp_model.specs.Legal.{IsLegal}
use Rattle.wp_core.specs.Changes.{remembers}
use Rattle.wp_core.specs.Conditions.{IsPrepare}
use Rattle.wp_core.specs.Effects.{with_entry, publishes}
use Rattle.wp_core.specs.Entries.{next_of, pair_by}
use Rattle.wp_core.specs.Sound.Views.{guarded_by}
use Rattle.wp_core.specs.States.{WriteState, writes}
use Rattle.wp_core.specs.Views.{Fact, versions_in_memory, versions_nowhere, number_in_heap, number_not_in_heap, pair_delayed, pair_not_delayed, none_waits, words_stay, log_failed}
use Rattle.wp_core.specs.World.{Actor}
use Rattle.wp_rule.specs.Knows.{Noted}
use Rattle.wp_parts.specs.Log.{LogState}
use Rattle.wp_parts.specs.Parts.{log_first}
use Rattle.wp_shared.specs.Seats.{SharedState, SeatState}
use Rattle.wp_shared.specs.Turns.{HoldsTurn}
use Rattle.wp_shared.specs.Notes.{is_ended_by, is_flag, GoesOn, KnowsWords}
use Rattle.wp_commits.specs.Ways.{way_of, ways_of, AreReady, AreApart, IsEntered, entered}
use Rattle.wp_records.specs.declared.error.WriteError.{WriteError}
use Rattle.wp_records.specs.declared.error.WriteError.TheVariants.{Memory, LogFault}
use Rattle.wp_records.specs.Records.{OwnsEntry, MayPut, IsNotPut, IsUncalled, failing, FailsAppend, AppendsOnce}

-- ---- which facts

-- where the versions of the pending entry are
abbrev pub is_of_versions : Fact → Bool
is_of_versions versions_in_memory = true
is_of_versions versions_nowhere = true
is_of_versions other = false

-- whether its number is in the prepared heap
abbrev pub is_of_heap : Fact → Bool
is_of_heap number_in_heap = true
is_of_heap number_not_in_heap = true
is_of_heap other = false

-- that, or what a flag is
abbrev pub is_of_number : Fact → Bool
is_of_number fact = is_of_heap fact || is_flag fact

-- whether its pair is a delayed commit, or whether a prepared number waits to be taken out
abbrev pub is_of_pair : Fact → Bool
is_of_pair pair_delayed = true
is_of_pair pair_not_delayed = true
is_of_pair none_waits = true
is_of_pair other = false

-- any of the pending entry
abbrev pub is_of_pending : Fact → Bool
is_of_pending fact = (is_of_versions fact || is_of_heap fact) || is_of_pair fact

-- that, or what a flag is
abbrev pub is_of_stage : Fact → Bool
is_of_stage fact = is_of_pending fact || is_flag fact

-- a turn guards it
abbrev pub is_guarded : Fact → Bool
is_guarded fact = is_some (guarded_by fact)

-- what the entry ends that joins this history: what is of the pending entry, what is about its transaction, and that a key is unchanged
-- which it changes
abbrev pub is_over : List Entry → Entry → Fact → Bool
is_over history entry fact = is_of_pending fact || is_ended_by history entry fact

-- that, or what a turn guards
abbrev pub may_end : List Entry → Entry → Fact → Bool
may_end history entry fact = is_guarded fact || is_ended_by history entry fact

-- ---- the seat

-- the seat with this log as the one state that it holds
abbrev pub holding : WriteState → SeatState → SeatState
holding t s = record s { knows = record s.knows { held = writes t ∷ [] } }

-- the seat, to which the log call for these entries failed
abbrev pub as_failed : List Entry → SeatState → SeatState
as_failed entries s = record s { knows = remembers s.knows (log_failed entries) }

-- the seat, which put the entry behind this history
abbrev pub as_published : List Entry → Entry → SeatState → SeatState
as_published history entry s = record s { knows = publishes history entry s.knows }

-- The seat holds the write turn alone, with this log, whatever is pending there. It has seen the whole history, and each pair of the
-- words that it noted is published.
pub record HoldsPending {D : Type 0} (z : SharedState D) (s : SeatState) (log : LogState) : Type 0 where
  pub turn : HoldsTurn z s (writes log.state) [] []
  pub seen : s.knows.participant.seen ≡ log.state.history
  pub of_store : log_first z.first ≡ Some log.first
  pub words : KnowsWords s.knows (length log.state.history)

-- ---- before the log call

-- something is pending that is not logged, and the log is not closed
pub record IsUnlogged (d : WriteState) : Type 0 where
  pub some : d.pending ≢ []
  pub unlogged : d.logged ≡ false
  pub running : d.closed ≡ false

-- a Prepare is pending
abbrev pub HasPrepare : WriteState → Type 0
HasPrepare d = (name : List ℕ) × (batch : List Change) × (others : List Entry) × (d.pending ≡ Prepare name batch ∷ others)

-- the entries were made pending, and nothing of them is anywhere
pub record IsBegun {D : Type 0} (z : SharedState D) (old : SeatState) (log : LogState) (entries : List Entry) (new : SeatState) (left : LogState) : Type 0 where
  pub holds : HoldsPending z new left
  pub seat : GoesOn is_of_pending (writes left.state ∷ []) old.turns old new
  pub state : left.state ≡ record log.state { pending = entries; logged = false }
  pub uncalled : IsUncalled log left
  pub nowhere : Noted new.knows versions_nowhere
  pub below : Noted new.knows number_not_in_heap
  pub undelayed : Noted new.knows pair_not_delayed

-- what the log call needs of the record: its versions are in memory, the number of a Prepare is in the heap, and its pairs may be
-- entered
pub record IsReadied (a : Actor) (cells : ℕ) (d : WriteState) : Type 0 where
  pub versions : Noted a versions_in_memory
  pub number : is_prepare (next_of d.pending) ≡ true → Noted a number_in_heap
  pub pairs : AreReady a cells (length d.history) (ways_of cells (suc (length d.history)) d.pending)

-- ---- the log call

-- the pending record is logged
pub record IsLogged {D : Type 0} (z : SharedState D) (old : SeatState) (log : LogState) (new : SeatState) (left : LogState) : Type 0 where
  pub holds : HoldsPending z new left
  pub seat : new ≡ holding left.state old
  pub state : left.state ≡ record log.state { logged = true; log = log.state.log ++ log.state.pending }
  pub appended : AppendsOnce log log.state.pending left

-- what the log call leaves of the pending record: it is logged, or taken back. It takes no memory
abbrev pub Logs : {D : Type 0} → SharedState D → SeatState → LogState → Result (Unit {0}) WriteError → SeatState → LogState → Type 0
Logs z old log (Ok done) new left = IsLogged z old log new left
Logs z old log (Err Memory) new left = ⊥
Logs z old log (Err LogFault) new left = IsNotPut z old log [] true (failing log.state.pending old.knows.participant) new left × FailsAppend log log.state.pending left

-- ---- behind it

-- the first of the pending entries may join the history, as far as its word and its number may be there
pub record IsNext (a : Actor) (d : WriteState) (entry : Entry) (others : List Entry) : Type 0 where
  pub pending : d.pending ≡ entry ∷ others
  pub logged : d.logged ≡ true
  pub legal : IsLegal (d.history ++ entry ∷ [])
  pub versions : Noted a versions_in_memory
  pub owned : OwnsEntry a d.history entry

-- the number of a Prepare is in the heap, and the pair of any other entry is in its word, or where it fits none it is a delayed commit,
-- and the bound has come to its number
pub record IsInPlace (a : Actor) (cells : ℕ) (d : WriteState) (entry : Entry) : Type 0 where
  pub number : IsPrepare entry → Noted a number_in_heap
  pub pair : (pair : CommitPair) → pair_by (suc (length d.history)) entry ≡ Some pair → (bound : ℕ) × (words : List ℕ) × Noted a (words_stay bound words) × IsEntered a cells words (way_of cells (Some pair)) × ((fits cells pair ≡ false) → pair.number ≤ bound)

-- the entry joined the history, and these are pending
pub record IsPublished (old : SeatState) (log : LogState) (entry : Entry) (others : List Entry) (new : SeatState) (left : LogState) : Type 0 where
  pub seat : GoesOn (is_over log.state.history entry) (writes left.state ∷ []) old.turns (as_published log.state.history entry old) new
  pub log_is : left ≡ record log { state = with_entry log.state entry others }

-- ... and the seat knows the words as published ones again
pub record HasJoined {D : Type 0} (z : SharedState D) (old : SeatState) (log : LogState) (entry : Entry) (others : List Entry) (new : SeatState) (left : LogState) : Type 0 where
  pub holds : HoldsPending z new left
  pub seat : GoesOn (may_end log.state.history entry) (writes left.state ∷ []) old.turns (as_published log.state.history entry old) new
  pub words : (bound : ℕ) (words : List ℕ) → Noted old.knows (words_stay bound words) → Noted new.knows (entered z.cells (length log.state.history) bound words (ways_of z.cells (suc (length log.state.history)) (entry ∷ [])))
  pub log_is : left ≡ record log { state = with_entry log.state entry others }

-- they have no versions, and none is a Prepare: so they may stand in a record behind another one
abbrev pub AreBehind : List Entry → Type 0
AreBehind [] = Unit {0}
AreBehind (Commit p ∷ entries) = AreBehind entries
AreBehind (Close p ∷ entries) = AreBehind entries
AreBehind other = ⊥

-- those behind the first
abbrev pub rest_of : List Entry → List Entry
rest_of [] = []
rest_of (entry ∷ entries) = entries

-- the pending entries, which are logged, may join the history one after another, as far as the versions of the first may be nowhere
pub record MayJoin (a : Actor) (cells : ℕ) (d : WriteState) : Type 0 where
  pub logged : d.logged ≡ true
  pub may : MayPut a d.history d.pending
  pub number : is_prepare (next_of d.pending) ≡ true → Noted a number_in_heap
  pub pairs : AreReady a cells (length d.history) (ways_of cells (suc (length d.history)) d.pending)
  pub apart : AreApart cells (ways_of cells (suc (length d.history)) d.pending)
  pub behind : AreBehind (rest_of d.pending)
