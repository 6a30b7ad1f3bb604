-- How a call puts a record of entries into the history, and what it does beside that.
use Rattle.std.specs.Prelude.{◌≡◌, ◌⊎◌, ℕ, ◌+◌, ◌≤◌, true, false, List, [], ◌∷◌, ◌++◌, length, map, take, Some, None, is_some, Result, Ok, Err}
use Rattle.std.specs.List.{AllByRecursion}
use Rattle.std.specs.FinMap as finite
use Rattle.wp_model.specs.declared.entry.Entry.{Entry}
use Rattle.wp_model.specs.declared.entry.Entry.TheVariants.{Prepare, Undo, Close}
use Rattle.wp_model.specs.History.{named}
use Rattle.wp_model.specs.Legal.{IsLegal, prior}
use Rattle.wp_model.specs.declared.change.Change.{Change}
use Rattle.wp_entry.specs.Record.{last_number}
use Rattle.wp_core.specs.Lists.{IsIn}
use Rattle.wp_core.specs.Views.{Fact, undecided_at, unprepared, direct_free}
use Rattle.wp_core.specs.World.{Participant}
use Rattle.wp_parts.specs.Log.{LogState, IsLog}
use Rattle.wp_records.specs.declared.error.WriteError.{WriteError}
use Rattle.wp_records.specs.declared.error.WriteError.TheVariants as write_error
use Rattle.wp_commits.specs.Ways.{ways_of, AreApart}
use Rattle.wp_records.specs.Records.{MayPut, IsPut, Puts, AppendsOnce}
use Rattle.wp_records.specs.Writing.{HoldsWrite}
use Rattle.wp_shared.specs.Calls.{IsLoose, ContinuesWith, Continues}
use Rattle.wp_shared.specs.Limits.{limit_at}
use Rattle.wp_shared.specs.Notes.{noting_only}
use Rattle.wp_shared.specs.Seats.{SharedState, SeatState}
use Rattle.wp_shared.specs.Turns.{TookLog}
use Rattle.wp_open_txns.specs.declared.error.TxnError.{TxnError}
use Rattle.wp_txn.specs.declared.recording.Noting.{Noting}
use Rattle.wp_txn.specs.declared.recording.Noting.TheVariants as noting
use Rattle.wp_open_txns.specs.declared.error.TxnError.TheVariants.{Memory, Busy, LogFault}
use Rattle.wp_open_txns.specs.Calls.{Keeps, Finds, LocksWere, LocksAre}
use Rattle.wp_open_txns.specs.Turns.{IsNoDirect}
use Rattle.wp_open_txns.specs.Txn.{PreparedState}
use Rattle.wp_txn.specs.Groups.{their_commits}
use Rattle.wp_txn.specs.Writes.{HasPut, Refuses, SawNoMore, MayLeaveDevice, writing_direct}

-- of each of them that no undecided prepare has its name
abbrev pub notes_of_each : List PreparedState → List Fact
notes_of_each txns = map (λ txn. unprepared txn.name) txns

-- what is noted of a record once it is put, where so many entries are published
abbrev pub notes_of : Noting → ℕ → List Fact
notes_of noting.Nothing n = []
notes_of (noting.Undecided name) n = undecided_at name.now n ∷ []
notes_of (noting.Unprepared txns) n = notes_of_each txns.now

-- the entries are the Undo and the Close of the one transaction
abbrev pub IsRollback : List PreparedState → List Entry → Type 0
IsRollback (txn ∷ []) entries = (batch : List Change) × (entries ≡ Undo txn.number batch ∷ Close txn.number ∷ [])
IsRollback other entries = ⊥

-- The entries decide these prepares, each the undecided one of its name in this history: a Commit of each, or an Undo and a Close.
abbrev pub IsEndOf : List PreparedState → List Entry → List Entry → Type 0
IsEndOf txns history entries = AllByRecursion (λ txn. named history txn.name ≡ Some txn.number) txns × ((entries ≡ their_commits txns) ⊎ IsRollback txns entries)

-- it may be noted of these entries behind this history: they prepare the name, or decide these transactions
abbrev pub MayNote : Noting → List Entry → List Entry → Type 0
MayNote noting.Nothing history entries = Unit {0}
MayNote (noting.Undecided name) history entries = (batch : List Change) × (entries ≡ Prepare name.now batch ∷ [])
MayNote (noting.Unprepared txns) history entries = IsEndOf txns.now history entries

-- the seat has the transaction, and no undecided prepare of this history has its name
abbrev pub IsDecided : SeatState → List Entry → PreparedState → Type 0
IsDecided s history txn = (is_some (finite.get s.knows.participant.transactions txn.name) ≡ true) × (named history txn.name ≡ None)

-- it noted these facts too, and is as it was but for that
pub record NotesMore (old : SeatState) (facts : List Fact) (new : SeatState) : Type 0 where
  pub same : new ≡ noting_only new.knows.notes old
  pub kept : (fact : Fact) → IsIn fact old.knows.notes → IsIn fact new.knows.notes
  pub noted : (fact : Fact) → IsIn fact facts → IsIn fact new.knows.notes

-- The seat took the write turn with this log, which is running, and holds no other. So many entries more have their numbers within
-- the limit of its segment, and the log's version has them. The device has what the log's state says.
pub record OpensLog {D : Type 0} (z : SharedState D) (old new : SeatState) (log : LogState) (needed : ℕ) : Type 0 where
  pub took : TookLog z old new log
  pub holds : HoldsWrite z new log
  pub running : log.state.closed ≡ false
  pub within : length log.state.history + needed ≤ limit_at z took.world.installed.last.segment.base
  pub numbers : length log.state.history + needed ≤ last_number log.wal.format
  pub is_log : IsLog log

-- these entries may be put into whatever log the seat finds running, so much may be noted of them, and their pairs are kept apart
pub record MayRecord {D : Type 0} (z : SharedState D) (s : SeatState) (entries : List Entry) (noting : Noting) : Type 0 where
  pub may : (t : SeatState) (log : LogState) → OpensLog z s t log (length entries) → MayPut t.knows log.state.history entries × MayNote noting log.state.history entries
  pub apart : (n : ℕ) → AreApart z.cells (ways_of z.cells n entries)

-- what a record leaves, behind which these facts are noted while the write turn is held
abbrev pub PutsNoting : {D : Type 0} → SharedState D → SeatState → LogState → List Entry → List Fact → Result (Unit {0}) WriteError → SeatState → LogState → Type 0
PutsNoting z old log entries facts (Ok done) new left = IsPut z old log entries new left × AppendsOnce log entries left × ((fact : Fact) → IsIn fact facts → IsIn fact new.knows.notes)
PutsNoting z old log entries facts (Err why) new left = Puts z old log entries (Err why) new left

-- the number published now, or why the record is not there
abbrev pub answer_of : Result (Unit {0}) WriteError → ℕ → Result ℕ TxnError
answer_of (Ok done) n = Ok n
answer_of (Err write_error.Memory) n = Err Memory
answer_of (Err write_error.LogFault) n = Err LogFault

-- the seat put the entries behind this history, which is legal with them
pub record HasRecorded {D : Type 0} (z : SharedState D) (old new : SeatState) (history entries : List Entry) : Type 0 where
  pub put : HasPut IsLoose z old new old.knows.participant old.knows.participant history entries
  pub legal : IsLegal (history ++ entries)

-- What a call answers that puts the entries into the history, and then notes these facts, which may name the number published
-- then; and what it leaves, the log's device too.
abbrev pub Records : {D : Type 0} → SharedState D → SeatState → List Entry → (ℕ → List Fact) → Result ℕ TxnError → SeatState → Type 0
Records z old entries facts (Ok n) new =
    (n ≡ length new.knows.participant.seen) × ((history : List Entry) × HasRecorded z old new history entries) × ((fact : Fact) → IsIn fact (facts n) → IsIn fact new.knows.notes)
Records z old entries facts (Err why) new =
    Refuses z old new (length entries) (λ asked. asked ≡ entries) old.knows.participant old.knows.participant why × MayLeaveDevice z old.knows.participant old why new

-- these are what the keys of the batch had once the seat had seen so many entries, the prepare's number at least
abbrev pub HadPrior : SeatState → ℕ → List Change → List Change → Type 0
HadPrior s number batch found = (n : ℕ) × (number ≤ n) × (n ≤ length s.knows.participant.seen) × (found ≡ prior (take n s.knows.participant.seen) batch)

-- ... at some moment since the seat was the old one
abbrev pub IsPriorSince : SeatState → SeatState → List Change → List Change → Type 0
IsPriorSince old new batch found = HadPrior new (length old.knows.participant.seen) batch found

-- ---- a direct write

-- the participant without a direct write
abbrev pub without_direct : Participant → Participant
without_direct p = record p { direct = None }

-- The key, which nobody held, is locked for the seat's direct write, and noted as that of no undecided prepare. Before that it had
-- noted no such fact. It has seen no more.
pub record HasDirect {D : Type 0} (z : SharedState D) (old new : SeatState) (key : List ℕ) : Type 0 where
  pub goes_on : Continues z old new (writing_direct key old.knows.participant)
  pub saw : SawNoMore old new
  pub found : LocksWere z old (λ t. finite.get t.keys key ≡ None)
  pub noted : IsIn (direct_free key) new.knows.notes
  pub first : (other : List ℕ) → IsIn (direct_free other) old.knows.notes → ⊥

abbrev pub HoldsDirect : {D : Type 0} → SharedState D → SeatState → List ℕ → Result (Unit {0}) TxnError → SeatState → Type 0
HoldsDirect z old key (Ok done) new = HasDirect z old new key
HoldsDirect z old key (Err (Busy holder)) new = Finds z old new (Some key) holder × SawNoMore old new
HoldsDirect z old key (Err Memory) new = Keeps z old new × SawNoMore old new
HoldsDirect z old key (Err other) new = ⊥

-- the direct write of the key is over, and nobody holds it; the seat has seen no more
pub record EndsDirect {D : Type 0} (z : SharedState D) (old new : SeatState) (key : List ℕ) : Type 0 where
  pub goes_on : ContinuesWith IsNoDirect z old new (without_direct old.knows.participant)
  pub same : new.knows.participant ≡ without_direct old.knows.participant
  pub freed : LocksAre z new (λ t. finite.get t.keys key ≡ None)
