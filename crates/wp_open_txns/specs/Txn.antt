-- The transactions of a seat, open and prepared.
use Rattle.std.specs.Prelude.{◌≡◌, ℕ, ◌+◌, ◌≤◌, ◌||◌, Bool, true, false, List, ◌++◌, length, map, Option, Some}
use Rattle.std.specs.FinSet as set
use Rattle.std.specs.FinMap as finite
use Rattle.wp_model.specs.declared.batch.TheConstants.{MOST_KEYS}
use Rattle.wp_model.specs.Batch.{key_of}
use Rattle.wp_model.specs.declared.change.Change.{Change}
use Rattle.wp_model.specs.declared.entry.Entry.TheVariants.{Prepare}
use Rattle.wp_model.specs.declared.holder.Holder.TheVariants.{Txn}
use Rattle.wp_model.specs.History.{entry_at, is_changed}
use Rattle.wp_model.specs.LockState.{is_among_keys}
use Rattle.wp_locks.specs.Locks.{AreOnce}
use Rattle.wp_core.specs.Lists.{IsIn}
use Rattle.wp_core.specs.Reading.{Registration}
use Rattle.wp_core.specs.Views.{locked, unchanged, undecided_at, unprepared}
use Rattle.wp_core.specs.World.{Transaction}
use Rattle.wp_shared.specs.Seats.{SeatState}

-- an open transaction; the keys that it locked without a change, and the snapshot that it pinned
pub record OpenState : Type 0 where
  pub name : List ℕ
  pub batch : List Change
  pub locked : List (List ℕ)
  pub pin : Option Registration

pub record PreparedState : Type 0 where
  pub name : List ℕ
  pub number : ℕ
  pub batch : List Change
  pub locked : List (List ℕ)

-- the keys of a transaction: those that its changes change, and those that it locked without a change
abbrev pub has_key : List Change → List (List ℕ) → List ℕ → Bool
has_key batch keys key = is_changed batch key || is_among_keys keys key

-- ... as one list
abbrev pub keys_in : List Change → List (List ℕ) → List (List ℕ)
keys_in batch keys = map key_of batch ++ keys

-- the seat has a transaction of this name, which locked just these keys
pub record HasLocked (s : SeatState) (name : List ℕ) (batch : List Change) (locked : List (List ℕ)) : Type 0 where
  pub transaction : Transaction
  pub has : finite.get s.knows.participant.transactions name ≡ Some transaction
  pub keys : (key : List ℕ) → set.contains transaction.locked key ≡ has_key batch locked key

-- each of these keys is there once and has no change, and the transaction has no more keys than a batch may have
pub record AreFew (batch : List Change) (locked : List (List ℕ)) : Type 0 where
  pub once : AreOnce locked
  pub apart : (key : List ℕ) → is_among_keys locked key ≡ true → is_changed batch key ≡ false
  pub few : length batch + length locked ≤ MOST_KEYS

-- The seat noted that no entry above this number changes the key, which its transaction has. It has seen so many entries, and the number
-- is not above that of the pin.
pub record IsSince (s : SeatState) (name key : List ℕ) (pin : Option Registration) : Type 0 where
  pub number : ℕ
  pub noted : IsIn (unchanged name key number) s.knows.notes
  pub seen : number ≤ length s.knows.participant.seen
  pub pinned : (r : Registration) → pin ≡ Some r → number ≤ r.number

-- The seat has this transaction, which locked just its keys, each by itself, and knows of each since when it is unchanged. No undecided
-- prepare has its name. Its pin is a snapshot of the seat's, of what the seat has seen.
pub record HasOpen (s : SeatState) (t : OpenState) : Type 0 where
  pub transaction : Transaction
  pub has : finite.get s.knows.participant.transactions t.name ≡ Some transaction
  pub batch_is : transaction.batch ≡ t.batch
  pub keys : (key : List ℕ) → set.contains transaction.locked key ≡ has_key t.batch t.locked key
  pub noted : IsIn (unprepared t.name) s.knows.notes
  pub few : AreFew t.batch t.locked
  pub came : (key : List ℕ) → has_key t.batch t.locked key ≡ true → IsIn (locked key (Txn t.name)) s.knows.participant.past
  pub since : (key : List ℕ) → has_key t.batch t.locked key ≡ true → IsSince s t.name key t.pin
  pub pinned : (r : Registration) → t.pin ≡ Some r → IsIn r s.knows.participant.registered × (r.number ≤ length s.knows.participant.seen)

-- The seat has this transaction, which locked just its keys. It is the undecided prepare with its number, which the seat has seen with
-- just these changes.
pub record HasPrepared (s : SeatState) (t : PreparedState) : Type 0 where
  pub transaction : Transaction
  pub has : finite.get s.knows.participant.transactions t.name ≡ Some transaction
  pub batch_is : transaction.batch ≡ t.batch
  pub keys : (key : List ℕ) → set.contains transaction.locked key ≡ has_key t.batch t.locked key
  pub noted : IsIn (undecided_at t.name t.number) s.knows.notes
  pub seen : t.number ≤ length s.knows.participant.seen
  pub stands : entry_at s.knows.participant.seen t.number ≡ Some (Prepare t.name t.batch)
