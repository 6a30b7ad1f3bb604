-- Conditions of steps, each by itself.
use Rattle.std.specs.Prelude.{◌≡◌, ◌≢◌, ◌⊎◌, ℕ, suc, ◌≤◌, ◌<◌, true, false, List, [], ◌∷◌, ◌++◌, Some, is_some, map, Option, None}
use Rattle.std.specs.FinSet as set
use Rattle.std.specs.FinMap as finite
use Rattle.wp_model.specs.declared.change.Change.{Change}
use Rattle.wp_model.specs.declared.entry.Entry.{Entry}
use Rattle.wp_model.specs.declared.entry.Entry.TheVariants.{Prepare}
use Rattle.wp_model.specs.History.{is_changed, named}
use Rattle.wp_model.specs.Legal.{IsLegal}
use Rattle.wp_model.specs.declared.version.Version.{Version}
use Rattle.wp_model.specs.Versions.{version_at}
use Rattle.wp_model.specs.declared.holder.Holder.{Holder}
use Rattle.wp_model.specs.declared.holder.Holder.TheVariants.{Txn, Client}
use Rattle.wp_core.specs.Turns.{Turn, write_turn, prepared_turn, snapshots_turn, tables_turn, Holds}
use Rattle.wp_judge.specs.Words.{CommitPair}
use Rattle.wp_core.specs.Cache.{cached}
use Rattle.wp_model.specs.PreparedSets.{is_prepared, NoneDelayed}
use Rattle.wp_core.specs.States.{WriteState, StoreState, Installed}
use Rattle.wp_model.specs.Flushed.{InstalledEdit}
use Rattle.wp_model.specs.Snapshots.{NoOldCommits}
use Rattle.wp_judge.specs.declared.observed.Observed.{Observed}
use Rattle.wp_judge.specs.declared.observed.Load.{Load}
use Rattle.wp_judge.specs.declared.observed.Load.TheVariants.{InPrepared, IsOldCommit}
use Rattle.wp_judge.specs.declared.observed.Asked.TheVariants as asked
use Rattle.wp_judge.specs.Order.{ask}
use Rattle.wp_core.specs.Lists.{IsIn}
use Rattle.wp_core.specs.Views.{Account, own, another, prepare_at, locked}
use Rattle.wp_core.specs.World.{Transaction, Actor, World, published}
use Rattle.wp_core.specs.Entries.{pair_by, pending_pair, transaction_of, changes_under, written}
use Rattle.wp_core.specs.Sound.Actors.{IsParticipantAt, participants_of}
use Rattle.wp_core.specs.Sound.Locks.{Owner, owner_of}
use Rattle.wp_core.specs.Sound.Prepared.{IsInOldCommits, IsEntered}
use Rattle.wp_core.specs.Sound.Store.{IsStored, IsOfEdit}
use Rattle.wp_core.specs.Sound.Views.{IsApart, IsInMemory, IsNowhere, IsUndelayed}

-- ---- loads

-- A snapshot's smallest is 1; or, while the prepared turn is held too, at most each prepared number and the next number.
abbrev pub MayBeSmallest : World → ℕ → ℕ → Type 0
MayBeSmallest w by least = (least ≡ 1) ⊎ (Holds w.holders prepared_turn by × (least ≤ suc (published w)) × ((p : ℕ) → is_prepared w.prepared p ≡ true → least ≤ p))

-- a look into a state needs its turn
abbrev pub MayLook : World → ℕ → Load → Type 0
MayLook w by InPrepared = Holds w.holders prepared_turn by
MayLook w by IsOldCommit = Holds w.holders snapshots_turn by
MayLook w by other = Unit {0}

abbrev pub IsNextLoad : World → ℕ → Actor → Load → Type 0
IsNextLoad w by a which = (r : Observed) × (a.reading ≡ Some r) × (ask r ≡ asked.Load which) × MayLook w by which

-- ---- stores

abbrev pub HasTransaction : Actor → List ℕ → Transaction → Type 0
HasTransaction a name t = finite.get a.participant.transactions name ≡ Some t

-- the key is held for the actor: for its direct write, or for a transaction of it that is not prepared
abbrev pub IsHeldFor : World → Actor → List ℕ → Type 0
IsHeldFor w a key = ((a.participant.direct ≡ Some key) × (finite.get w.locks.keys key ≡ Some (Client a.participant.client)))
    ⊎ ((name : List ℕ) × (t : Transaction) × HasTransaction a name t × (finite.get w.locks.keys key ≡ Some (Txn name)) × (named w.writes.history name ≡ None))

-- the entry's transaction is the actor's, and its keys are held for it
abbrev pub IsOwn : World → Actor → Entry → Type 0
IsOwn w a entry =
    (name : List ℕ) → transaction_of w.writes.history entry ≡ Some name
    → (t : Transaction) × HasTransaction a name t × ((key : List ℕ) → is_changed (changes_under w.writes.history entry) key ≡ true → (set.contains t.locked key ≡ true) × (finite.get w.locks.keys key ≡ Some (Txn name)))

abbrev pub IsPrepare : Entry → Type 0
IsPrepare (Prepare name batch) = Unit {0}
IsPrepare other = ⊥

-- The first of the pending entries may be published: it is logged and legal; its versions are in memory; the keys of a Write are
-- held for the actor; the transaction that it is of is the actor's; a Prepare's number is in the prepared heap, and the pair
-- of any other entry is where a reader finds it. Who prepares a transaction locked each of its keys itself.
pub record MayPublish (w : World) (by : ℕ) (a : Actor) (entry : Entry) (others : List Entry) : Type 0 where
  pub turn : Holds w.holders write_turn by
  pub pending : w.writes.pending ≡ entry ∷ others
  pub logged : w.writes.logged ≡ true
  pub legal : IsLegal (w.writes.history ++ entry ∷ [])
  pub versions : IsInMemory w.writes w.store
  pub keys : (key : List ℕ) → is_changed (written entry) key ≡ true → IsHeldFor w a key
  pub transaction : IsOwn w a entry
  pub came : (name : List ℕ) (batch : List Change) (t : Transaction) (key : List ℕ) → entry ≡ Prepare name batch → HasTransaction a name t → set.contains t.locked key ≡ true → IsIn (locked key (Txn name)) a.participant.past
  pub number : IsPrepare entry → set.contains w.prepared.heap (suc (published w)) ≡ true
  pub pair : (pair : CommitPair) → pair_by (suc (published w)) entry ≡ Some pair → IsEntered w.cache w.prepared.delayed_commits w.max_evicted pair

-- A pair may be evicted: its decision is at most the bound, the old commit map has it under each live snapshot that it
-- overlaps, and it is of no prepared transaction, or a delayed commit.
pub record MayBeEvicted (w : World) (pair : CommitPair) : Type 0 where
  pub passed : pair.decision ≤ w.max_evicted
  pub kept : IsInOldCommits w.snapshots pair.number pair.decision
  pub apart : IsApart w.prepared pair

-- no segment waits to come into use: none was written beside the one in use, or the log is closed
abbrev pub NoneNext : WriteState → Type 0
NoneNext t = (t.next ≡ None) ⊎ (t.closed ≡ true)

-- a turn is given with nothing pending and no segment that waits, with its flag down where what it tells of is empty, and
-- with the last edit's tables
abbrev pub MayGive : World → Turn → Type 0
MayGive w write_turn = (w.writes.pending ≡ []) × NoneNext w.writes
MayGive w prepared_turn = NoneDelayed w.prepared → w.delayed_flag ≡ 0
MayGive w snapshots_turn = NoOldCommits w.snapshots → w.old_flag ≡ 0
MayGive w tables_turn = IsOfEdit w.store w.installed.last
MayGive w other = Unit {0}

-- ---- the write turn

-- something is pending that is not logged, and the log is not closed
abbrev pub MayLog : World → ℕ → Type 0
MayLog w by = Holds w.holders write_turn by × (w.writes.pending ≢ []) × (w.writes.logged ≡ false) × (w.writes.closed ≡ false)

-- The log is not closed. Something is pending that is not logged; or nothing is pending, the last edit does not name the next segment,
-- and there was something to renew: more is published than the log's base.
abbrev pub MayClose : World → ℕ → Type 0
MayClose w by =
    Holds w.holders write_turn by × (w.writes.closed ≡ false)
    × (((w.writes.pending ≢ []) × (w.writes.logged ≡ false)) ⊎ ((w.writes.pending ≡ []) × (w.writes.next ≢ Some w.installed.last.segment) × (w.writes.segment.base < published w)))

-- nothing is pending, the log is not closed, no other segment waits, and this is not the place of the one in use
abbrev pub MayWriteSegment : World → ℕ → ℕ → Type 0
MayWriteSegment w by place = Holds w.holders write_turn by × (w.writes.pending ≡ []) × (w.writes.closed ≡ false) × (w.writes.next ≡ None) × (place ≢ w.writes.segment.place)

-- nothing of the pending entry is left: its pair is in no word and no delayed commit, its versions are not in memory, its number is not
-- in the heap
abbrev pub MayDrop : World → ℕ → Type 0
MayDrop w by =
    Holds w.holders write_turn by × (w.writes.logged ≡ false)
    × ((pair : CommitPair) → pending_pair w.writes.history w.writes.pending ≡ Some pair → cached w.cache pair.number ≢ Some pair.decision)
    × IsUndelayed w.writes w.prepared
    × IsNowhere w.writes w.store × (set.contains w.prepared.heap (suc (published w)) ≡ false)

-- a Prepare is pending, whose number may come into the heap or go out of it
abbrev pub IsPreparePending : World → ℕ → Type 0
IsPreparePending w by = Holds w.holders write_turn by × Holds w.holders prepared_turn by × ((name : List ℕ) × (batch : List Change) × (others : List Entry) × (w.writes.pending ≡ Prepare name batch ∷ others))

-- ---- the store turn

-- the same versions, the pending entry's where they were
abbrev pub SameVersions : World → List Version → List Version → Type 0
SameVersions w memory tables =
    ((key : List ℕ) (p : ℕ) → version_at (memory ++ tables) key p ≡ version_at (w.store.memory ++ w.store.tables) key p)
    × ((key : List ℕ) → version_at memory key (suc (published w)) ≡ version_at w.store.memory key (suc (published w)))

-- the edit names the last one's segment
abbrev pub NamesSegment : World → InstalledEdit → Type 0
NamesSegment w edit = edit.segment ≡ w.installed.last.segment

-- the edit names the log's next segment, while the log is not closed, and flushes the whole history; the actor holds the write turn
abbrev pub NamesNext : World → ℕ → InstalledEdit → Type 0
NamesNext w by edit = Holds w.holders write_turn by × (w.writes.closed ≡ false) × (w.writes.next ≡ Some edit.segment) × (edit.flushed ≡ published w)

-- the last edit names the next segment, and the log is not closed
abbrev pub MayUseSegment : World → ℕ → Type 0
MayUseSegment w by = Holds w.holders write_turn by × (w.writes.closed ≡ false) × (w.writes.next ≡ Some w.installed.last.segment)

-- nothing is pending, the log is not closed, the last edit does not name the next segment, and the devices of the tables failed
abbrev pub MayStop : World → ℕ → Type 0
MayStop w by =
    Holds w.holders write_turn by × Holds w.holders tables_turn by × (w.writes.pending ≡ []) × (w.writes.closed ≡ false)
    × (w.writes.next ≢ Some w.installed.last.segment) × (w.installed.halted ≡ true)

-- the store and the edits would be as they should be
abbrev pub KeepsStore : World → StoreState → Installed → Type 0
KeepsStore w store installed = IsStored w.writes.history w.writes.pending w.first_edit.segment.base w.snapshots store installed

-- ---- the locks turn

-- the state has the holder of the key; where no key is given, the holder is a live name
abbrev pub IsHolder : World → Option (List ℕ) → Holder → Type 0
IsHolder w (Some key) holder = finite.get w.locks.keys key ≡ Some holder
IsHolder w None holder = (name : List ℕ) × (holder ≡ Txn name) × (is_some (finite.get w.locks.names name) ≡ true)

-- this one of the participants is that holder: it has the transaction, or the direct write of the key
abbrev pub IsSelf : Owner → Option (List ℕ) → Holder → Type 0
IsSelf p key (Txn name) = (t : Transaction) × (finite.get p.transactions name ≡ Some t)
IsSelf p (Some key) (Client client) = (p.client ≡ client) × (p.direct ≡ Some key)
IsSelf p None (Client client) = ⊥

-- another one of the participants is that holder
pub record IsOther (w : World) (by : ℕ) (key : Option (List ℕ)) (holder : Holder) : Type 0 where
  pub at : ℕ
  pub place : ℕ
  pub participant : Owner
  pub there : IsParticipantAt (map (participants_of owner_of) w.actors) at place participant
  pub apart : (at ≢ by) ⊎ (place ≢ 0)
  pub is : IsSelf participant key holder

-- how the holder is accounted for: it is the actor itself, or another one, or a live name that nobody has
abbrev pub Accounts : World → ℕ → Actor → Option (List ℕ) → Holder → Account → Type 0
Accounts w by a key holder own = IsSelf (owner_of a.participant) key holder
Accounts w by a key holder another = IsOther w by key holder
Accounts w by a key (Txn name) (prepare_at n) = (n ≡ published w) × (finite.get w.locks.names name ≡ Some None)
Accounts w by a key (Client client) (prepare_at n) = ⊥
