-- What a record needs, and what it leaves: its entries in the history, or nothing of it.
use Rattle.std.specs.Prelude.{◌≡◌, ℕ, suc, ◌+◌, Bool, true, false, List, [], ◌∷◌, ◌++◌, length, Some, None, Result, Ok, Err}
use Rattle.std.specs.FinSet as set
use Rattle.wp_model.specs.declared.change.Change.{Change}
use Rattle.wp_model.specs.declared.entry.Entry.{Entry}
use Rattle.wp_model.specs.declared.entry.Entry.TheVariants.{Prepare}
use Rattle.wp_model.specs.declared.holder.Holder.TheVariants.{Txn}
use Rattle.wp_model.specs.History.{is_changed}
use Rattle.wp_model.specs.Legal.{IsLegal}
use Rattle.wp_outside.specs.Disk.{Moment, Passes}
use Rattle.wp_outside.specs.Faults.{Rose}
use Rattle.wp_gatelog.specs.Moments.{Leaves}
use Rattle.wp_wal.specs.Spelling.{IsLogOrNextAt}
use Rattle.wp_wal.specs.Wal.{WalState, LosesNothingAt}
use Rattle.wp_core.specs.Conditions.{HasTransaction}
use Rattle.wp_core.specs.Entries.{transaction_of, changes_under, written}
use Rattle.wp_core.specs.Lists.{IsIn}
use Rattle.wp_core.specs.Sound.Views.{guarded_by}
use Rattle.wp_core.specs.States.{WriteState, writes}
use Rattle.wp_core.specs.Views.{Fact, words_stay, none_waits, log_failed, locked}
use Rattle.wp_core.specs.World.{Transaction, Actor, Participant, World}
use Rattle.wp_rule.specs.Knows.{KnowsHeld, Noted}
use Rattle.wp_cuts.specs.Cut.{Cut, IsCut}
use Rattle.wp_parts.specs.Log.{LogState}
use Rattle.wp_shared.specs.Notes.{is_ended_by}
use Rattle.wp_shared.specs.Seats.{SharedState, SeatState, Stands}
use Rattle.wp_commits.specs.declared.way.Way.{Way}
use Rattle.wp_commits.specs.Bound.{bound_for}
use Rattle.wp_commits.specs.Ways.{ways_of, AnyClears, RisesFor, entered}
use Rattle.wp_records.specs.declared.error.WriteError.{WriteError}
use Rattle.wp_records.specs.declared.error.WriteError.TheVariants.{Memory, LogFault}
use Rattle.wp_records.specs.Writing.{HoldsWrite}

-- ---- before

-- The keys of a Write are held for the seat. The transaction that an entry behind this history is of is the seat's, and has the keys
-- locked that the entry needs. A transaction that is prepared has no key but what the seat locked itself.
pub record OwnsEntry (a : Actor) (history : List Entry) (entry : Entry) : Type 0 where
  pub keys : (key : List ℕ) → is_changed (written entry) key ≡ true → KnowsHeld a key
  pub transaction : (name : List ℕ) → transaction_of history entry ≡ Some name
      → (x : Transaction) × HasTransaction a name x × ((key : List ℕ) → is_changed (changes_under history entry) key ≡ true → set.contains x.locked key ≡ true)
  pub came : (name : List ℕ) (batch : List Change) (x : Transaction) (key : List ℕ) → entry ≡ Prepare name batch → HasTransaction a name x → set.contains x.locked key ≡ true → IsIn (locked key (Txn name)) a.participant.past

-- of each entry behind those before it
abbrev pub OwnsEntries : Actor → List Entry → List Entry → Type 0
OwnsEntries a history [] = Unit {0}
OwnsEntries a history (entry ∷ entries) = OwnsEntry a history entry × OwnsEntries a (history ++ entry ∷ []) entries

-- the entries may be put behind this history
pub record MayPut (a : Actor) (history entries : List Entry) : Type 0 where
  pub legal : IsLegal (history ++ entries)
  pub owned : OwnsEntries a history entries

-- ---- after

-- the numbers of entries behind so many
abbrev pub numbers_behind : ℕ → List Entry → List ℕ
numbers_behind n [] = []
numbers_behind n (entry ∷ entries) = suc n ∷ numbers_behind (suc n) entries

-- the participant once it put the entries behind this history
abbrev pub putting : List Entry → List Entry → Participant → Participant
putting history entries p = record p { seen = history ++ entries; own = p.own ++ numbers_behind (length history) entries }

-- the fact is about the transaction of none of the entries behind this history, and does not say that a key is unchanged that they change
abbrev pub IsAboutNone : List Entry → List Entry → Fact → Type 0
IsAboutNone history [] fact = Unit {0}
IsAboutNone history (entry ∷ entries) fact = (is_ended_by history entry fact ≡ false) × IsAboutNone (history ++ entry ∷ []) entries fact

-- Before the entries were logged, and once the bound had risen for their pairs, the seat stood in a world of the store with the write
-- turn and with them pending behind this history, and knew that no prepared number waited to be taken out: the bound had come to the
-- decision of no delayed commit.
pub record HasCleared {D : Type 0} (z : SharedState D) (old : SeatState) (history entries : List Entry) : Type 0 where
  pub seat : SeatState
  pub world : World
  pub stands : Stands z seat world
  pub same_by : seat.by ≡ old.by
  pub participant : seat.knows.participant ≡ old.knows.participant
  pub state : WriteState
  pub held : seat.knows.held ≡ writes state ∷ []
  pub history_is : state.history ≡ history
  pub pending_is : state.pending ≡ entries
  pub rises : RisesFor z.cells (length history) old.knows seat.knows (ways_of z.cells (suc (length history)) entries)
  pub waits : Noted seat.knows none_waits

-- The entries stand behind the history, and the seat put them there, once the bound had risen for the pairs that are kept in these
-- ways; where one of them clears, no commit waited then that the bound had come to. What it noted without a turn it has noted still, but
-- for what was about the transaction of one of them, or said that a key is unchanged which one changes. The bound and the words are as they
-- were but for that, and for the entries' own pairs.
pub record IsPutWith {D : Type 0} (z : SharedState D) (old : SeatState) (log : LogState) (cleared : List Way) (entries : List Entry) (new : SeatState) (left : LogState) : Type 0 where
  pub holds : HoldsWrite z new left
  pub same_by : new.by ≡ old.by
  pub history : left.state.history ≡ log.state.history ++ entries
  pub running : left.state.closed ≡ false
  pub knows : new.knows ≡ record old.knows { participant = putting log.state.history entries old.knows.participant; learned = []; held = writes left.state ∷ []; notes = new.knows.notes }
  pub notes : (fact : Fact) → guarded_by fact ≡ None → IsAboutNone log.state.history entries fact → IsIn fact old.knows.notes → IsIn fact new.knows.notes
  pub waited : AnyClears cleared → HasCleared z old log.state.history entries
  pub words : (bound : ℕ) (words : List ℕ) → Noted old.knows (words_stay bound words)
      → Noted new.knows (entered z.cells (length log.state.history) (bound_for z.cells (length log.state.history) bound words cleared) words (ways_of z.cells (suc (length log.state.history)) entries))

-- ... for those of all its entries
abbrev pub IsPut : {D : Type 0} → SharedState D → SeatState → LogState → List Entry → SeatState → LogState → Type 0
IsPut z old log entries new left = IsPutWith z old log (ways_of z.cells (suc (length log.state.history)) entries) entries new left

-- The history is as it was, and nothing is pending. The log is closed now, or it is not. The bound rose for these ways, and the words
-- are as they were.
pub record IsNotPut {D : Type 0} (z : SharedState D) (old : SeatState) (log : LogState) (cleared : List Way) (closed : Bool) (after : Participant) (new : SeatState) (left : LogState) : Type 0 where
  pub holds : HoldsWrite z new left
  pub same_by : new.by ≡ old.by
  pub history : left.state.history ≡ log.state.history
  pub closed_is : left.state.closed ≡ closed
  pub knows : new.knows ≡ record old.knows { participant = after; held = writes left.state ∷ []; notes = new.knows.notes }
  pub notes : (fact : Fact) → guarded_by fact ≡ None → IsIn fact old.knows.notes → IsIn fact new.knows.notes
  pub words : RisesFor z.cells (length log.state.history) old.knows new.knows cleared

-- the participant, to which the log call for these entries failed
abbrev pub failing : List Entry → Participant → Participant
failing entries p = record p { past = p.past ++ log_failed entries ∷ [] }

-- The log's device was not called: its count and its moments are as they were. At most the room for a record was reserved.
abbrev pub IsUncalled : LogState → LogState → Type 0
IsUncalled log left = left.wal ≡ record log.wal { reserved = left.wal.reserved }

-- since then a crash left the history in the log's segment, or it and these entries, whole
abbrev pub LeavesAll : WalState → WriteState → List Entry → List Moment → Type 0
LeavesAll wal table entries moments =
    (c : Cut) → IsCut table.history c → c.base ≡ table.segment.base → Passes (Leaves (IsLogOrNextAt wal.id table.segment.place c entries)) wal.moments moments

-- The append of these entries failed: the count of the log's device rose, and the log is closed for good. A crash at any moment of it
-- left the history, or it and the entries, whole, and lost nothing that was acknowledged.
pub record FailsAppend (log : LogState) (entries : List Entry) (left : LogState) : Type 0 where
  pub state : left.state ≡ record log.state { pending = []; logged = false; closed = true; failed = entries }
  pub rose : Rose log.wal.faults left.wal.faults
  pub passed : LeavesAll log.wal log.state entries left.wal.moments
  pub durable : LosesNothingAt log.state.segment.place log.wal.moments left.wal.moments

-- The append of these entries was one record: the log of the device has one more, and spells the entries behind what it spelled. A crash at
-- any moment of it left the history, or it and the entries, whole, and lost nothing that was acknowledged.
pub record AppendsOnce (log : LogState) (entries : List Entry) (left : LogState) : Type 0 where
  pub spelled : left.state.log ≡ log.state.log ++ entries
  pub counted : left.wal.count ≡ log.wal.count + 1
  pub passed : LeavesAll log.wal log.state entries left.wal.moments
  pub durable : LosesNothingAt log.state.segment.place log.wal.moments left.wal.moments

-- What a call answers that puts these entries behind the history, and what it leaves. Where memory is wanting the bound rose for some
-- of the first of its ways, for none, or for all; and the log's device was not called.
abbrev pub Puts : {D : Type 0} → SharedState D → SeatState → LogState → List Entry → Result (Unit {0}) WriteError → SeatState → LogState → Type 0
Puts z old log entries (Ok done) new left = IsPut z old log entries new left × AppendsOnce log entries left
Puts z old log entries (Err Memory) new left =
    (cleared : List Way) × (others : List Way) × (ways_of z.cells (suc (length log.state.history)) entries ≡ cleared ++ others) × IsNotPut z old log cleared false old.knows.participant new left × IsUncalled log left
Puts z old log entries (Err LogFault) new left = IsNotPut z old log (ways_of z.cells (suc (length log.state.history)) entries) true (failing entries old.knows.participant) new left × FailsAppend log entries left
