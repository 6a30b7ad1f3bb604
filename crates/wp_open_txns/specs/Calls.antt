-- What the calls answer, and what they leave of the seat.
use Rattle.std.specs.Prelude.{◌≡◌, ◌⊎◌, ℕ, ◌+◌, ◌≤◌, Bool, true, false, not, if◌then◌else◌, List, [], ◌∷◌, ◌++◌, filter, length, Option, Some, None, Result, Ok, Err}
use Rattle.std.specs.Str.{bytes_eq}
use Rattle.std.specs.FinMap as finite
use Rattle.wp_model.specs.declared.batch.TheConstants.{MOST_KEYS}
use Rattle.wp_model.specs.declared.change.Change.{Change}
use Rattle.wp_model.specs.declared.entry.Entry.{Entry}
use Rattle.wp_model.specs.declared.holder.Holder.{Holder}
use Rattle.wp_model.specs.declared.holder.Holder.TheVariants.{Txn}
use Rattle.wp_model.specs.LockState.{LockState, is_among_keys}
use Rattle.wp_model.specs.Batch.{key_of, with_change}
use Rattle.wp_model.specs.Changed.{conflict, IsUnchanged}
use Rattle.wp_model.specs.History.{named, is_changed}
use Rattle.wp_core.specs.States.{WriteState, writes, locks}
use Rattle.wp_core.specs.Reading.{Registration}
use Rattle.wp_core.specs.Views.{Fact, claimed, took, locked, told, heard, found, unchanged}
use Rattle.wp_core.specs.Lists.{IsIn}
use Rattle.wp_core.specs.World.{Transaction, Participant, Actor, World}
use Rattle.wp_rule.specs.Words.{IsAt}
use Rattle.wp_rule.specs.Accounts.{IsHolderIn, account_of}
use Rattle.wp_shared.specs.Seats.{SharedState, SeatState, place_at}
use Rattle.wp_shared.specs.Calls.{ContinuesWith, Continues, with_events}
use Rattle.wp_open_txns.specs.declared.error.TxnError.{TxnError}
use Rattle.wp_open_txns.specs.declared.error.TxnError.TheVariants.{Memory, Taken, Busy, TooMany, Conflict, Silent, Unknown, InUse}
use Rattle.wp_open_txns.specs.declared.validating.Locked.{Locked}
use Rattle.wp_open_txns.specs.declared.validating.Locked.TheVariants.{Own, Read}
use Rattle.wp_read.specs.Fresh.{ReadsFresh}
use Rattle.wp_read.specs.Registers.{IsTakenWithLeast, unregistering}
use Rattle.wp_open_txns.specs.Txn.{OpenState, PreparedState, has_key, IsSince, HasOpen, HasPrepared}
use Rattle.wp_open_txns.specs.Actors.{no_changes, transaction_in, with_key_locked}
use Rattle.wp_open_txns.specs.Turns.{IsApartFrom}

-- it has this transaction, in place of one of the same name
abbrev pub with_transaction : List ℕ → Transaction → Participant → Participant
with_transaction name x p = record p { transactions = finite.insert p.transactions name x }

abbrev pub without_transaction : List ℕ → Participant → Participant
without_transaction name p = record p { transactions = finite.remove p.transactions name }

-- the seat goes on as it was
abbrev pub Keeps : {D : Type 0} → SharedState D → SeatState → SeatState → Type 0
Keeps z old new = Continues z old new old.knows.participant

-- a reached world in which the seat was this participant, had made and taken in as many others, and held the locks turn
pub record StoodWithLocks {D : Type 0} (z : SharedState D) (s : SeatState) (w : World) : Type 0 where
  pub actor : Actor
  pub there : IsAt (place_at z s.by) actor w
  pub held : IsIn (locks w.locks) actor.held
  pub participant : actor.participant ≡ s.knows.participant
  pub made : actor.made ≡ s.knows.made
  pub joined : actor.joined ≡ s.knows.joined

-- ... and had noted by then what it notes
pub record FoundLocks {D : Type 0} (z : SharedState D) (s : SeatState) (w : World) : Type 0 where
  pub stood : StoodWithLocks z s w
  pub notes : (fact : Fact) → IsIn fact s.knows.notes → IsIn fact stood.actor.notes

-- the locks were so in a world in which the seat stood so
pub record LocksWhere (Stood : World → Type 0) (So : LockState → Type 0) : Type 0 where
  pub world : World
  pub stood : Stood world
  pub so_is : So world.locks

-- ... as a call found them
abbrev pub LocksWere : {D : Type 0} → SharedState D → SeatState → (LockState → Type 0) → Type 0
LocksWere z s So = LocksWhere (FoundLocks z s) So

-- ... or as it left them
abbrev pub LocksAre : {D : Type 0} → SharedState D → SeatState → (LockState → Type 0) → Type 0
LocksAre z s So = LocksWhere (StoodWithLocks z s) So

-- the name is not live, and no key is held for its transaction
abbrev pub IsFreeName : List ℕ → LockState → Type 0
IsFreeName name t = (finite.get t.names name ≡ None) × ((key : List ℕ) → finite.get t.keys key ≡ Some (Txn name) → ⊥)

-- In a world in which the seat stood so, the locks had this holder of the key, or else of a live name. The seat remembers that
-- it found it, and how these account for it, when so many entries were published, no fewer than it had seen.
pub record FindsWhere {D : Type 0} (Stood : World → Type 0) (z : SharedState D) (old new : SeatState) (key : Option (List ℕ)) (holder : Holder) : Type 0 where
  pub world : World
  pub stood : Stood world
  pub holds : IsHolderIn world.locks key holder
  pub published : ℕ
  pub reached : length old.knows.participant.seen ≤ published
  pub goes_on : Continues z old new (with_events (found key holder (length old.knows.participant.seen) (account_of old.knows.participant world.locks published key holder) ∷ []) old.knows.participant)

-- the locks as the call found them
abbrev pub Finds : {D : Type 0} → SharedState D → SeatState → SeatState → Option (List ℕ) → Holder → Type 0
Finds z old new key holder = FindsWhere (FoundLocks z old) z old new key holder

-- a transaction of this name is gone from the seat, which knows no more about it
abbrev pub GivesUp : {D : Type 0} → SharedState D → SeatState → SeatState → List ℕ → Type 0
GivesUp z old new name = ContinuesWith (IsApartFrom name) z old new (without_transaction name old.knows.participant)

-- an open transaction is gone from the seat, with its pin, and so is what the seat knows about it
abbrev pub Abandons : {D : Type 0} → SharedState D → SeatState → SeatState → OpenState → Type 0
Abandons z old new txn = ContinuesWith (IsApartFrom txn.name) z old new (without_transaction txn.name (unregistering txn.pin old.knows.participant))

-- a transaction of this name is gone from the seat, which has seen no more, and its name and keys are free
pub record Frees {D : Type 0} (z : SharedState D) (old new : SeatState) (name : List ℕ) : Type 0 where
  pub gives_up : GivesUp z old new name
  pub same : new.knows.participant ≡ without_transaction name old.knows.participant
  pub freed : LocksAre z new (IsFreeName name)

abbrev pub Begins : {D : Type 0} → SharedState D → SeatState → List ℕ → Result OpenState TxnError → SeatState → Type 0
Begins z old name (Ok txn) new = (txn ≡ record { name = name; batch = []; locked = []; pin = None }) × HasOpen new txn × Continues z old new (with_events (claimed name ∷ []) (with_transaction name no_changes old.knows.participant))
    × (finite.get old.knows.participant.transactions name ≡ None) × LocksWere z old (λ t. finite.get t.names name ≡ None)
Begins z old name (Err (Taken other)) new = (other ≡ name) × Finds z old new None (Txn name)
Begins z old name (Err Memory) new = Keeps z old new
Begins z old name (Err other) new = ⊥

-- ---- keys, changes and the pin

-- 64 keys are written or locked, and this is none of them
abbrev pub IsFull : OpenState → List ℕ → Type 0
IsFull txn key = (length txn.batch + length txn.locked ≡ MOST_KEYS) × (has_key txn.batch txn.locked key ≡ false)

-- the participant once it locked the key for its transaction, unless the transaction has it already
abbrev pub locking : Bool → List ℕ → List ℕ → Participant → Participant
locking true name key p = p
locking false name key p = with_events (locked key (Txn name) ∷ []) (with_transaction name (with_key_locked key (transaction_in p name)) p)

-- ... and once its transaction has the batch with the change
abbrev pub changing : OpenState → Change → Participant → Participant
changing txn change p = let q = locking (has_key txn.batch txn.locked (key_of change)) txn.name (key_of change) p in with_transaction txn.name (record (transaction_in q txn.name) { batch = with_change txn.batch change }) q

-- the transaction with the change: a key that it locked without one moves to the batch
abbrev pub with_changed : OpenState → Change → OpenState
with_changed txn change = record txn { batch = with_change txn.batch change; locked = filter (λ key. not (bytes_eq key (key_of change))) txn.locked }

-- the transaction with the key locked
abbrev pub with_locked_key : OpenState → List ℕ → OpenState
with_locked_key txn key = record txn { locked = if is_among_keys txn.locked key then txn.locked else txn.locked ++ key ∷ [] }

-- The key came to the transaction as it had nothing of it: the seat found it free. It noted that the key is unchanged since a number: as
-- many entries were published as the key was locked, no fewer than it had seen before, and it has seen them. Behind the lock it saw a
-- history in which nothing changed the key since the pin.
pub record ComesFree {D : Type 0} (z : SharedState D) (old : SeatState) (txn : OpenState) (key : List ℕ) (new : SeatState) : Type 0 where
  pub free : LocksWere z old (λ t. finite.get t.keys key ≡ None)
  pub number : ℕ
  pub noted : IsIn (unchanged txn.name key number) new.knows.notes
  pub reached : length old.knows.participant.seen ≤ number
  pub seen : number ≤ length new.knows.participant.seen
  pub unchanged : (r : Registration) → txn.pin ≡ Some r → IsUnchanged new.knows.participant.seen key r.number

-- The key, of which the transaction has nothing, was free as the seat found it, and is free again. The seat remembers that it locked it.
pub record GivesBack {D : Type 0} (z : SharedState D) (old new : SeatState) (txn : OpenState) (key : List ℕ) : Type 0 where
  pub not_its : has_key txn.batch txn.locked key ≡ false
  pub was_free : LocksWere z old (λ t. finite.get t.keys key ≡ None)
  pub freed : LocksAre z new (λ t. finite.get t.keys key ≡ None)
  pub goes_on : Continues z old new (with_events (locked key (Txn txn.name) ∷ []) old.knows.participant)

-- behind the lock the seat saw a history in which the entry with this number changed the key last, above the pin
pub record Conflicts (txn : OpenState) (key : List ℕ) (number : ℕ) (new : SeatState) : Type 0 where
  pub pin : Registration
  pub pinned : txn.pin ≡ Some pin
  pub last : conflict new.knows.participant.seen key pin.number ≡ Some number

-- Why a key does not come to the transaction, which is as it was: in this order, but that memory may be wanting before the last two.
abbrev pub RefusesKey : {D : Type 0} → SharedState D → SeatState → OpenState → List ℕ → TxnError → SeatState → OpenState → Type 0
RefusesKey z old txn key TooMany new left = (left ≡ txn) × HasOpen new left × IsFull txn key × Keeps z old new
RefusesKey z old txn key (Busy holder) new left =
    (left ≡ txn) × HasOpen new left × (IsFull txn key → ⊥) × (has_key txn.batch txn.locked key ≡ false) × (holder ≡ Txn txn.name → ⊥) × Finds z old new (Some key) holder
RefusesKey z old txn key (Conflict number) new left = (left ≡ txn) × HasOpen new left × (IsFull txn key → ⊥) × Conflicts txn key number new × GivesBack z old new txn key
RefusesKey z old txn key Memory new left = (left ≡ txn) × HasOpen new left × Keeps z old new
RefusesKey z old txn key other new left = ⊥

-- what `stage` answers, and what it leaves
abbrev pub Changes : {D : Type 0} → SharedState D → SeatState → OpenState → Change → Result (Unit {0}) TxnError → SeatState → OpenState → Type 0
Changes z old txn change (Ok done) new left =
    (left ≡ with_changed txn change) × HasOpen new left × (IsFull txn (key_of change) → ⊥) × Continues z old new (changing txn change old.knows.participant)
    × (has_key txn.batch txn.locked (key_of change) ≡ false → ComesFree z old txn (key_of change) new)
Changes z old txn change (Err why) new left = RefusesKey z old txn (key_of change) why new left

-- What `pin` answers, and what it leaves: a snapshot of all that is published is the transaction's pin. It is registered first, and then
-- the pin from before goes, if there was one.
abbrev pub Pins : {D : Type 0} → SharedState D → SeatState → OpenState → Result ℕ TxnError → SeatState → OpenState → Type 0
Pins z old txn (Ok n) new left =
    (r : Registration) × (left ≡ record txn { pin = Some r }) × HasOpen new left × (r.number ≡ n) × (n ≡ length new.knows.participant.seen) × IsTakenWithLeast z old new.knows.participant.seen r
    × Continues z old new (unregistering txn.pin (record old.knows.participant { registered = old.knows.participant.registered ++ r ∷ [] }))
Pins z old txn (Err Memory) new left = (left ≡ txn) × HasOpen new left × Keeps z old new
Pins z old txn (Err other) new left = ⊥

-- The transaction has the key locked without a change, as the seat goes on: it had it so before, or it came to it. Behind that the value
-- was read. The key is unchanged since a number that was seen before the read: so the value stays while the transaction has the key.
pub record ReadsLocked {D : Type 0} (z : SharedState D) (old : SeatState) (txn : OpenState) (key : List ℕ) (value : Option (List ℕ)) (n : ℕ) (new : SeatState) : Type 0 where
  pub room : IsFull txn key → ⊥
  pub no_change : is_changed txn.batch key ≡ false
  pub behind : SeatState
  pub locked : Continues z old behind (locking (is_among_keys txn.locked key) txn.name key old.knows.participant)
  pub since : IsSince behind txn.name key txn.pin
  pub comes : is_among_keys txn.locked key ≡ false → ComesFree z old txn key behind
  pub read : ReadsFresh z behind new key value n
  pub goes_on : Continues z old new (locking (is_among_keys txn.locked key) txn.name key old.knows.participant)

-- What `lock` answers, and what it leaves. A key with a change answers so, and nothing is done. Where the read wants memory, the key is
-- free again, unless the transaction had it before.
abbrev pub LocksForRead : {D : Type 0} → SharedState D → SeatState → OpenState → List ℕ → Result Locked TxnError → SeatState → OpenState → Type 0
LocksForRead z old txn key (Ok Own) new left = (left ≡ txn) × HasOpen new left × (is_changed txn.batch key ≡ true) × Keeps z old new
LocksForRead z old txn key (Ok (Read value n)) new left = (left ≡ with_locked_key txn key) × HasOpen new left × ReadsLocked z old txn key value n new
LocksForRead z old txn key (Err Memory) new left = (left ≡ txn) × HasOpen new left × (is_changed txn.batch key ≡ false) × (Keeps z old new ⊎ GivesBack z old new txn key)
LocksForRead z old txn key (Err why) new left = (is_changed txn.batch key ≡ false) × RefusesKey z old txn key why new left

-- ---- prepared transactions

-- a reached world in which the seat had done what it had before the call, and held the write turn and the locks turn by now
pub record StoodWithBoth {D : Type 0} (z : SharedState D) (old : SeatState) (w : World) : Type 0 where
  pub actor : Actor
  pub there : IsAt (place_at z old.by) actor w
  pub state : WriteState
  pub held : actor.held ≡ locks w.locks ∷ writes state ∷ old.knows.held
  pub same : actor ≡ record old.knows { held = actor.held; notes = actor.notes }

-- A prepare of the seen is taken, which is undecided there, and which was nobody's.
pub record Takes {D : Type 0} (z : SharedState D) (old : SeatState) (name : List ℕ) (txn : PreparedState) (new : SeatState) : Type 0 where
  pub name_is : txn.name ≡ name
  pub not_had : finite.get old.knows.participant.transactions name ≡ None
  pub nobodys : LocksWere z old (λ t. finite.get t.names name ≡ Some None)
  pub number_is : named new.knows.participant.seen name ≡ Some txn.number
  pub has : HasPrepared new txn
  pub goes_on : Continues z old new (with_events (took name ∷ []) (with_transaction name has.transaction old.knows.participant))

-- a client has the transaction of this name
abbrev pub IsInUse : World → List ℕ → Type 0
IsInUse w name = (client : List ℕ) × (finite.get w.locks.names name ≡ Some (Some client))

-- in a world in which the seat held both turns, and so many entries were published, the name was not live
abbrev pub IsNotLive : {D : Type 0} → SharedState D → SeatState → List ℕ → ℕ → Type 0
IsNotLive z old name at = (w : World) × StoodWithBoth z old w × (finite.get w.locks.names name ≡ None) × (length w.writes.history ≡ at)

abbrev pub TakesPrepared : {D : Type 0} → SharedState D → SeatState → List ℕ → Result PreparedState TxnError → SeatState → Type 0
TakesPrepared z old name (Ok txn) new = Takes z old name txn new
TakesPrepared z old name (Err (Unknown other at)) new = (other ≡ name) × (at ≡ length new.knows.participant.seen) × (named new.knows.participant.seen name ≡ None) × Keeps z old new × IsNotLive z old name at
TakesPrepared z old name (Err (InUse other)) new = (other ≡ name) × (found : FindsWhere (StoodWithBoth z old) z old new None (Txn name)) × IsInUse found.world name
TakesPrepared z old name (Err Memory) new = Keeps z old new
TakesPrepared z old name (Err other) new = ⊥

-- ---- the board

-- The history was published in a world of the store in which the seat had done what it had before the call, and held the locks turn by
-- now.
pub record WasHistory {D : Type 0} (z : SharedState D) (old : SeatState) (history : List Entry) : Type 0 where
  pub world : World
  pub actor : Actor
  pub there : IsAt (place_at z old.by) actor world
  pub held : IsIn (locks world.locks) actor.held
  pub participant : actor.participant ≡ record old.knows.participant { seen = actor.participant.seen }
  pub is : world.writes.history ≡ history

abbrev pub Tells : {D : Type 0} → SharedState D → SeatState → List ℕ → Result ℕ TxnError → SeatState → Type 0
Tells z old label (Ok n) new =
    (n ≡ length new.knows.participant.seen) × Continues z old new (with_events (told label n ∷ []) old.knows.participant) × LocksAre z new (λ t. finite.get t.labels label ≡ Some n)
    × WasHistory z old new.knows.participant.seen
Tells z old label (Err Memory) new = Keeps z old new
Tells z old label (Err other) new = ⊥

-- The board, as the call found it, had no such label. The seat never told it nor heard it.
pub record IsSilent {D : Type 0} (z : SharedState D) (old : SeatState) (label : List ℕ) : Type 0 where
  pub world : World
  pub stood : StoodWithLocks z old world
  pub none : finite.get world.locks.labels label ≡ None
  pub not_told : (n : ℕ) → IsIn (told label n) old.knows.participant.past → ⊥
  pub not_heard : (n : ℕ) → IsIn (heard label n) old.knows.participant.past → ⊥

abbrev pub Hears : {D : Type 0} → SharedState D → SeatState → List ℕ → Result ℕ TxnError → SeatState → Type 0
Hears z old label (Ok n) new =
    (n ≡ length new.knows.participant.seen)
    × ((m : ℕ) × (m ≤ n) × Continues z old new (with_events (heard label m ∷ []) old.knows.participant) × LocksWere z old (λ t. finite.get t.labels label ≡ Some m) × WasHistory z old new.knows.participant.seen)
Hears z old label (Err Silent) new = IsSilent z old label × Keeps z old new
Hears z old label (Err other) new = ⊥
