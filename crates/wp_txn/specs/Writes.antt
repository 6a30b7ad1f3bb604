-- What the calls answer that make entries, and what they leave of the seat.
use Rattle.std.specs.Prelude.{◌≡◌, ◌⊎◌, ℕ, ◌+◌, ◌-◌, ◌<◌, ◌≤◌, Bool, true, false, List, [], ◌∷◌, ◌++◌, length, take, Some, None, Result, Ok, Err}
use Rattle.std.specs.FinMap as finite
use Rattle.wp_model.specs.declared.change.Change.{Change}
use Rattle.wp_model.specs.declared.entry.Entry.{Entry}
use Rattle.wp_model.specs.declared.entry.Entry.TheVariants.{Write, Prepare, Commit, Undo, Close}
use Rattle.wp_model.specs.declared.holder.Holder.TheVariants.{Client}
use Rattle.wp_model.specs.Batch.{key_of}
use Rattle.wp_model.specs.Changed.{IsUnchanged}
use Rattle.wp_model.specs.History.{batch_at, entry_at, is_changed, is_prepare, is_undecided, value_at}
use Rattle.wp_model.specs.Legal.{IsLegal, prior}
use Rattle.wp_judge.specs.Words.{fits}
use Rattle.wp_core.specs.Sound.Actors.{StartsWith}
use Rattle.wp_core.specs.States.{WriteState}
use Rattle.wp_core.specs.Lists.{IsIn}
use Rattle.wp_core.specs.Reading.{Registration}
use Rattle.wp_core.specs.Views.{Fact, has_left, locked, log_failed, stopped, based_at, unchanged}
use Rattle.wp_core.specs.World.{Participant}
use Rattle.wp_parts.specs.Log.{LogState, IsLog}
use Rattle.wp_parts.specs.Parts.{log_first}
use Rattle.wp_read.specs.Registers.{unregistering}
use Rattle.wp_records.specs.Writing.{FoundLog}
use Rattle.wp_records.specs.Records.{numbers_behind, IsAboutNone, failing, AppendsOnce, FailsAppend, IsUncalled}
use Rattle.wp_shared.specs.Calls.{IsLoose, ContinuesWith, Continues, with_events}
use Rattle.wp_shared.specs.Devices.{CalledNoDevice, LeftMarks}
use Rattle.wp_shared.specs.Limits.{limit_at}
use Rattle.wp_shared.specs.Seats.{SharedState, SeatState}
use Rattle.wp_open_txns.specs.declared.error.TxnError.{TxnError}
use Rattle.wp_open_txns.specs.declared.error.TxnError.TheVariants.{Memory, Busy, NumbersFull, LogFault, Stopped}
use Rattle.wp_open_txns.specs.Calls.{Keeps, Finds, LocksWere, LocksAre, IsFreeName, without_transaction}
use Rattle.wp_open_txns.specs.Turns.{IsApartFrom}
use Rattle.wp_open_txns.specs.Txn.{OpenState, PreparedState, has_key, HasOpen, HasPrepared}

-- ---- any entries

-- The store's log on its device, as the call found it, in this state, and as it left it: between the two this came about. Both are
-- what the value behind the turn may be: the device has what the state says that the log spells, no fault since the opening was
-- forgotten, and what was acknowledged then is so still. No clause of a call on a shared store sees its device: that the value was the
-- one and became the other in this very call is what `put` says, of the value that the call took out from behind the turn.
pub record HadLog {D : Type 0} (z : SharedState D) (found : WriteState) (CameAbout : LogState → LogState → Type 0) : Type 0 where
  pub before : LogState
  pub left : LogState
  pub of_store : log_first z.first ≡ Some before.first
  pub still_of_store : log_first z.first ≡ Some left.first
  pub before_is : before.state ≡ found
  pub log : IsLog before
  pub still_log : IsLog left
  pub came_about : CameAbout before left

-- The seat put the entries behind this history, in which it found the log running; they end what it has seen, and their numbers
-- are its own, within the limit that the store has while the log is in the segment that the last edit named then. It was the first
-- participant as it found the log, and is the second one but for what it put. It has these facts still, but for those about the
-- transaction of one of the entries, or that a key is unchanged which one changes. The entries are one record of the log: its append is
-- the one that the log has more.
pub record HasPut {D : Type 0} (Stays : Fact → Type 0) (z : SharedState D) (old new : SeatState) (found after : Participant) (history entries : List Entry) : Type 0 where
  pub grown : StartsWith history old.knows.participant.seen
  pub found_log : FoundLog z old found history false
  pub seen : new.knows.participant.seen ≡ history ++ entries
  pub within : length (history ++ entries) ≤ limit_at z found_log.world.installed.last.segment.base
  pub appended : HadLog z found_log.world.writes (λ before left. AppendsOnce before entries left)
  pub goes_on : ContinuesWith (λ fact. Stays fact × IsAboutNone history entries fact) z old new (record after { own = after.own ++ numbers_behind (length history) entries })

-- ... behind some history
abbrev pub HasPutThese : {D : Type 0} → (Fact → Type 0) → SharedState D → SeatState → SeatState → Participant → Participant → List Entry → Type 0
HasPutThese Stays z old new found after entries = (history : List Entry) × HasPut Stays z old new found after history entries

-- the append of these entries failed
abbrev pub HadFault : {D : Type 0} → SharedState D → WriteState → List Entry → Type 0
HadFault z found entries = HadLog z found (λ before left. FailsAppend before entries left)

-- Why a call put no entries there, of which it needs so many, and asks for such. It was the first participant as it found the log,
-- and is the second one but for what it remembers of that; of what it noted it has these facts still. What a log that failed was asked to take
-- might have come next.
abbrev pub RefusesWith : {D : Type 0} → (Fact → Type 0) → SharedState D → SeatState → SeatState → ℕ → (List Entry → Type 0) → Participant → Participant → TxnError → Type 0
RefusesWith Stays z old new needed Asks found after Memory = ContinuesWith Stays z old new after
RefusesWith Stays z old new needed Asks found after (Stopped n) =
    (n ≡ length new.knows.participant.seen) × FoundLog z old found new.knows.participant.seen true × ContinuesWith Stays z old new (with_events (stopped n ∷ []) after)
RefusesWith Stays z old new needed Asks found after (NumbersFull published limit) =
    (published ≡ length new.knows.participant.seen) × (limit < published + needed)
    × (found_log : FoundLog z old found new.knows.participant.seen false) × (limit ≡ limit_at z found_log.world.installed.last.segment.base)
    × ContinuesWith Stays z old new (with_events (based_at published found_log.world.installed.last.segment.base ∷ []) after)
RefusesWith Stays z old new needed Asks found after LogFault =
    (found_log : FoundLog z old found new.knows.participant.seen false) × (length new.knows.participant.seen + needed ≤ limit_at z found_log.world.installed.last.segment.base)
    × ((entries : List Entry) × Asks entries × ContinuesWith Stays z old new (failing entries after) × IsLegal (new.knows.participant.seen ++ entries) × HadFault z found_log.world.writes entries)
RefusesWith Stays z old new needed Asks found after other = ⊥

-- ... and has all that it noted without a turn
abbrev pub Refuses : {D : Type 0} → SharedState D → SeatState → SeatState → ℕ → (List Entry → Type 0) → Participant → Participant → TxnError → Type 0
Refuses z old new needed Asks found after why = RefusesWith IsLoose z old new needed Asks found after why

-- ---- the log's device

-- Between the two it made one append, which failed, and called no other device.
abbrev pub FailedOnce : Participant → Participant → Type 0
FailedOnce old new = (entries : List Entry) × LeftMarks (log_failed entries ∷ []) old new

-- the seat has seen no more than before
abbrev pub SawNoMore : SeatState → SeatState → Type 0
SawNoMore old new = new.knows.participant.seen ≡ old.knows.participant.seen

-- The log's device was not called: its count and its moments are as they were. For the seat never had the write turn, and saw no more
-- of the history; or it had the turn, as this participant, and gave the log back with its device uncalled.
abbrev pub LeavesDevice : {D : Type 0} → SharedState D → Participant → SeatState → SeatState → Type 0
LeavesDevice z found old new =
    SawNoMore old new ⊎ ((closed : Bool) × (found_log : FoundLog z old found new.knows.participant.seen closed) × HadLog z found_log.world.writes IsUncalled)

-- unless the answer is that the device failed
abbrev pub MayLeaveDevice : {D : Type 0} → SharedState D → Participant → SeatState → TxnError → SeatState → Type 0
MayLeaveDevice z found old LogFault new = Unit {0}
MayLeaveDevice z found old other new = LeavesDevice z found old new

-- What a refused call did with the devices, which found the log as this participant. Where it says that the log's device failed, it
-- made one append, which failed. Where it says anything else, want of memory too, it called none. So behind an append that answered Ok
-- the call answers Ok.
abbrev pub RefusesBeforeLog : {D : Type 0} → SharedState D → Participant → SeatState → TxnError → SeatState → Type 0
RefusesBeforeLog z found old LogFault new = FailedOnce old.knows.participant new.knows.participant
RefusesBeforeLog z found old other new = CalledNoDevice old.knows.participant new.knows.participant × LeavesDevice z found old new

-- the same of a call that read at a snapshot first, and took that back
abbrev pub RefusesBehindRead : {D : Type 0} → SharedState D → SeatState → TxnError → SeatState → Type 0
RefusesBehindRead z old why new = (read : SeatState) × Continues z old read old.knows.participant × RefusesBeforeLog z read.knows.participant read why new

-- ---- a direct write

-- the participant, which locked the key for its direct write and freed it again
abbrev pub wrote_direct : List ℕ → Participant → Participant
wrote_direct key p = with_events (locked key (Client p.client) ∷ []) p

-- ... while it holds the key
abbrev pub writing_direct : List ℕ → Participant → Participant
writing_direct key p = record (wrote_direct key p) { direct = Some key }

-- nobody held the key as the call found it, and nobody holds it as it left it
abbrev pub KeyIsFree : {D : Type 0} → SharedState D → SeatState → SeatState → List ℕ → Type 0
KeyIsFree z old new key = LocksWere z old (λ t. finite.get t.keys key ≡ None) × LocksAre z new (λ t. finite.get t.keys key ≡ None)

abbrev pub WritesDirect : {D : Type 0} → SharedState D → SeatState → Change → Result ℕ TxnError → SeatState → Type 0
WritesDirect z old change (Ok n) new =
    (n ≡ length new.knows.participant.seen)
    × HasPutThese IsLoose z old new (writing_direct (key_of change) old.knows.participant) (wrote_direct (key_of change) old.knows.participant) (Write (change ∷ []) ∷ [])
    × KeyIsFree z old new (key_of change)
WritesDirect z old change (Err (Busy holder)) new = Finds z old new (Some (key_of change)) holder
WritesDirect z old change (Err Memory) new = Keeps z old new ⊎ (Continues z old new (wrote_direct (key_of change) old.knows.participant) × KeyIsFree z old new (key_of change))
WritesDirect z old change (Err why) new =
    Refuses z old new 1 (λ entries. entries ≡ Write (change ∷ []) ∷ []) (writing_direct (key_of change) old.knows.participant) (wrote_direct (key_of change) old.knows.participant) why
    × KeyIsFree z old new (key_of change)

-- ---- a transaction

-- In this history each key of the transaction is unchanged since its pin, and each is since the numbers since which the seat had noted it.
pub record AreUnchanged (s : SeatState) (txn : OpenState) (history : List Entry) : Type 0 where
  pub noted : (key : List ℕ) (n : ℕ) → IsIn (unchanged txn.name key n) s.knows.notes → IsUnchanged history key n
  pub pinned : (r : Registration) → txn.pin ≡ Some r → (key : List ℕ) → has_key txn.batch txn.locked key ≡ true → IsUnchanged history key r.number

-- It is prepared behind a history in which its keys are unchanged. It has no pin any more.
abbrev pub Prepares : {D : Type 0} → SharedState D → SeatState → OpenState → PreparedState → ℕ → SeatState → Type 0
Prepares z old txn prepared n new =
    (n ≡ length new.knows.participant.seen) × (prepared ≡ record { name = txn.name; number = n; batch = txn.batch; locked = txn.locked }) × HasPrepared new prepared
    × ((history : List Entry)
    × HasPut IsLoose z old new old.knows.participant (unregistering txn.pin old.knows.participant) history (Prepare txn.name txn.batch ∷ [])
    × AreUnchanged old txn history)

-- These entries, behind a history of which this is so, end the transaction of that name, which the seat has no more: it is this participant
-- since. Its name and its keys are free again.
abbrev pub Ends : {D : Type 0} → SharedState D → SeatState → List ℕ → Participant → List Entry → (List Entry → Type 0) → ℕ → SeatState → Type 0
Ends z old name after entries So n new =
    (n ≡ length new.knows.participant.seen) × ((history : List Entry) × HasPut (IsApartFrom name) z old new old.knows.participant after history entries × So history)
    × LocksAre z new (IsFreeName name)

-- an open one ends behind a history in which its keys are unchanged, and its pin goes with it
abbrev pub CommitsNow : {D : Type 0} → SharedState D → SeatState → OpenState → ℕ → SeatState → Type 0
CommitsNow z old txn n new =
    Ends z old txn.name (without_transaction txn.name (unregistering txn.pin old.knows.participant)) (Write txn.batch ∷ []) (AreUnchanged old txn) n new

-- the keys of a prepared transaction are unchanged since its prepare
abbrev pub StayUnchanged : PreparedState → List Entry → Type 0
StayUnchanged txn history = (key : List ℕ) → has_key txn.batch txn.locked key ≡ true → IsUnchanged history key txn.number

-- A prepared one ends so too. Where the pair fits a word the seat noted that the number left the prepared heap and the delayed set, for
-- good.
abbrev pub Commits : {D : Type 0} → SharedState D → SeatState → PreparedState → ℕ → SeatState → Type 0
Commits z old txn n new =
    Ends z old txn.name (without_transaction txn.name old.knows.participant) (Commit txn.number ∷ []) (StayUnchanged txn) n new
    × (fits z.cells (record { number = txn.number; decision = n }) ≡ true → IsIn (has_left txn.number) new.knows.notes)

-- The key is unchanged since this number, as `CommitsNow` says of the history before its entry, and `Prepares` of that before its own. Or
-- there is a prepare in between, and the key is unchanged since that too, as `Commits` says, or is a key of its batch and it is undecided.
abbrev pub IsUnchangedThrough : List Entry → List ℕ → ℕ → Type 0
IsUnchangedThrough history key n =
    IsUnchanged history key n
    ⊎ ((p : ℕ) × (is_prepare (entry_at history p) ≡ true) × IsUnchanged (take (p - 1) history) key n
    × (IsUnchanged history key p ⊎ ((is_undecided history p ≡ true) × (is_changed (batch_at history p) key ≡ true))))

-- since this number and each later one the key is unchanged, and has the value that it had there
abbrev pub KeepsValue : List Entry → List ℕ → ℕ → Type 0
KeepsValue history key n = (m : ℕ) → n ≤ m → m ≤ length history → IsUnchanged history key m × (value_at history key m ≡ value_at history key n)

-- What the keys had in the history that it was put behind, and then the end of the prepare. The name and the keys are free again.
abbrev pub RollsBack : {D : Type 0} → SharedState D → SeatState → PreparedState → ℕ → SeatState → Type 0
RollsBack z old txn n new =
    (n ≡ length new.knows.participant.seen)
    × ((history : List Entry)
    × HasPut (IsApartFrom txn.name) z old new old.knows.participant (without_transaction txn.name old.knows.participant) history (Undo txn.number (prior history txn.batch) ∷ Close txn.number ∷ []))
    × (fits z.cells (record { number = txn.number; decision = n }) ≡ true → IsIn (has_left txn.number) new.knows.notes)
    × LocksAre z new (IsFreeName txn.name)

-- it is refused, and the transaction is as it was
abbrev pub RefusesOpen : {D : Type 0} → SharedState D → SeatState → OpenState → Entry → OpenState → TxnError → SeatState → Type 0
RefusesOpen z old txn entry left why new = (left ≡ txn) × HasOpen new left × Refuses z old new 1 (λ entries. entries ≡ entry ∷ []) old.knows.participant old.knows.participant why

-- the entries that a commit asks for behind this history, and a rollback
abbrev pub AsksCommit : List Entry → PreparedState → List Entry → Type 0
AsksCommit history txn entries = entries ≡ Commit txn.number ∷ []

abbrev pub AsksRollback : List Entry → PreparedState → List Entry → Type 0
AsksRollback history txn entries = entries ≡ Undo txn.number (prior history txn.batch) ∷ Close txn.number ∷ []

abbrev pub RefusesPrepared : {D : Type 0} → SharedState D → SeatState → PreparedState → ℕ → (List Entry → PreparedState → List Entry → Type 0) → PreparedState → TxnError → SeatState → Type 0
RefusesPrepared z old txn needed Asks left why new = (left ≡ txn) × HasPrepared new left × Refuses z old new needed (Asks new.knows.participant.seen txn) old.knows.participant old.knows.participant why
