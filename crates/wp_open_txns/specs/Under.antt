-- What the calls do while they hold the locks turn with its state: what they answer, and how they leave the state and the seat.
use Rattle.std.specs.Prelude.{◌≡◌, ℕ, ◌≤◌, true, false, List, length, Option, Some, None, is_some, Result, Ok, Err}
use Rattle.std.specs.FinMap as finite
use Rattle.wp_model.specs.LockState.{LockState}
use Rattle.wp_model.specs.declared.change.Change.{Change}
use Rattle.wp_model.specs.declared.entry.Entry.{Entry}
use Rattle.wp_model.specs.History.{named, batch_at}
use Rattle.wp_model.specs.declared.holder.Holder.{Holder}
use Rattle.wp_model.specs.declared.holder.Holder.TheVariants.{Txn, Client}
use Rattle.wp_model.specs.Holder.{is_same_txn}
use Rattle.wp_locks.specs.Locks.{is_free_for}
use Rattle.wp_core.specs.Changes.{sees, with_name, with_key, with_label}
use Rattle.wp_core.specs.Lists.{IsIn}
use Rattle.wp_core.specs.States.{WriteState, writes}
use Rattle.wp_core.specs.Sound.Actors.{StartsWith}
use Rattle.wp_shared.specs.Notes.{seat_of}
use Rattle.wp_shared.specs.Seats.{SeatState}
use Rattle.wp_open_txns.specs.declared.error.TxnError.{TxnError}
use Rattle.wp_open_txns.specs.declared.error.TxnError.TheVariants.{Memory, Taken, Busy, Silent, Unknown, InUse}
use Rattle.wp_open_txns.specs.Actors.{with_claimed, with_found, with_direct, with_told, with_heard}
use Rattle.wp_open_txns.specs.Turns.{LocksUnchanged, TakesPrepare}

-- the name is live, and the seat found that, when no fewer entries were published than it had seen
abbrev pub FindsName : LockState → SeatState → List ℕ → LockState → SeatState → Type 0
FindsName old s name new t =
    (is_some (finite.get old.names name) ≡ true) × (new ≡ old)
    × ((published : ℕ) × (length s.knows.participant.seen ≤ published) × (t ≡ seat_of s (with_found old published None (Txn name) s.knows)))

abbrev pub Claims : LockState → SeatState → List ℕ → Result (Unit {0}) TxnError → LockState → SeatState → Type 0
Claims old s name (Ok done) new t = (new ≡ with_name old name (Some s.knows.participant.client)) × (t ≡ seat_of s (with_claimed old name s.knows)) × (finite.get old.names name ≡ None)
Claims old s name (Err (Taken other)) new t = (other ≡ name) × FindsName old s name new t
Claims old s name (Err Memory) new t = (new ≡ old) × (t ≡ s)
Claims old s name (Err other) new t = ⊥

-- the key is the holder's, or it is another's, and the seat found that
abbrev pub LocksFor : LockState → SeatState → List ℕ → Holder → Result (Unit {0}) TxnError → LockState → SeatState → Type 0
LocksFor old s key holder (Ok done) new t = (is_free_for (finite.get old.keys key) holder ≡ true) × (new ≡ with_key old key holder) × (t ≡ s)
LocksFor old s key holder (Err (Busy other)) new t =
    (finite.get old.keys key ≡ Some other) × (is_same_txn other holder ≡ false) × (new ≡ old)
    × ((published : ℕ) × (length s.knows.participant.seen ≤ published) × (t ≡ seat_of s (with_found old published (Some key) other s.knows)))
LocksFor old s key holder (Err Memory) new t = (new ≡ old) × (t ≡ s)
LocksFor old s key holder (Err other) new t = ⊥

abbrev pub LocksKey : LockState → SeatState → List ℕ → List ℕ → Result (Unit {0}) TxnError → LockState → SeatState → Type 0
LocksKey old s name key (Ok done) new t = (new ≡ with_key old key (Txn name)) × LocksUnchanged s old name key t
LocksKey old s name key (Err why) new t = LocksFor old s key (Txn name) (Err why) new t

abbrev pub LocksDirect : LockState → SeatState → List ℕ → Result (Unit {0}) TxnError → LockState → SeatState → Type 0
LocksDirect old s key (Ok done) new t = (new ≡ with_key old key (Client s.knows.participant.client)) × (t ≡ seat_of s (with_direct old key s.knows)) × (finite.get old.keys key ≡ None)
LocksDirect old s key (Err why) new t = LocksFor old s key (Client s.knows.participant.client) (Err why) new t

abbrev pub TakesUnder : LockState → SeatState → List ℕ → Result (Unit {0}) TxnError → LockState → SeatState → Type 0
TakesUnder old s name (Ok done) new t = (new ≡ with_name old name (Some s.knows.participant.client)) × (finite.get old.names name ≡ Some None) × TakesPrepare s old name t
TakesUnder old s name (Err (Unknown other at)) new t =
    (other ≡ name) × (finite.get old.names name ≡ None) × (new ≡ old) × ((history : List Entry) × StartsWith history s.knows.participant.seen × (named history name ≡ None) × (at ≡ length history) × (t ≡ seat_of s (sees history s.knows))
    × ((d : WriteState) → IsIn (writes d) s.knows.held → history ≡ d.history))
TakesUnder old s name (Err (InUse other)) new t = (other ≡ name) × FindsName old s name new t × ((client : List ℕ) × (finite.get old.names name ≡ Some (Some client)))
TakesUnder old s name (Err other) new t = ⊥

abbrev pub TellsUnder : LockState → SeatState → List ℕ → Result (Unit {0}) TxnError → LockState → SeatState → Type 0
TellsUnder old s label (Ok done) new t = (new ≡ with_label old label (length s.knows.participant.seen)) × (t ≡ seat_of s (with_told old label s.knows))
TellsUnder old s label (Err Memory) new t = (new ≡ old) × (t ≡ s)
TellsUnder old s label (Err other) new t = ⊥

abbrev pub HearsUnder : LockState → SeatState → List ℕ → Result ℕ TxnError → SeatState → Type 0
HearsUnder old s label (Ok n) t =
    (m : ℕ) × (history : List Entry) × (finite.get old.labels label ≡ Some m) × (m ≤ length history) × StartsWith history s.knows.participant.seen × (n ≡ length history) × (t ≡ seat_of s (with_heard history label m s.knows))
HearsUnder old s label (Err Silent) t = (finite.get old.labels label ≡ None) × (t ≡ s)
HearsUnder old s label (Err other) t = ⊥

-- the number and the batch of the undecided prepare of that name, or none
abbrev pub IsPrepareOf : List Entry → List ℕ → Option (ℕ × List Change) → Type 0
IsPrepareOf history name None = named history name ≡ None
IsPrepareOf history name (Some found) = (named history name ≡ Some found.0) × (batch_at history found.0 ≡ found.1)
