-- What the steps leave of a seat that it makes while it holds turns.
use Rattle.std.specs.Prelude.{◌≡◌, ℕ, Bool, true, false, List, Some, None, is_some}
use Rattle.std.specs.FinMap as finite
use Rattle.std.specs.Str.{bytes_eq}
use Rattle.wp_model.specs.declared.entry.Entry.{Entry}
use Rattle.wp_model.specs.declared.holder.Holder.TheVariants.{Txn}
use Rattle.wp_model.specs.History.{named, is_changed}
use Rattle.wp_model.specs.LockState.{LockState}
use Rattle.wp_core.specs.Entries.{batch_of_name}
use Rattle.wp_core.specs.Lists.{IsIn}
use Rattle.wp_core.specs.States.{WriteState, writes}
use Rattle.wp_core.specs.Views.{Fact, direct_free, unchanged}
use Rattle.wp_core.specs.Sound.Actors.{StartsWith}
use Rattle.wp_core.specs.Sound.Views.{guarded_by}
use Rattle.wp_shared.specs.Notes.{is_about, seat_of}
use Rattle.wp_shared.specs.Seats.{SeatState}
use Rattle.wp_open_txns.specs.Actors.{giving_up, freeing_key, ending_direct, with_locked, with_taken}

-- a fact that is noted without a turn, and is not about that transaction
abbrev pub IsApartFrom : List ℕ → Fact → Type 0
IsApartFrom name fact = (guarded_by fact ≡ None) × (is_about (Some name) fact ≡ false)

-- its transaction of this name is gone, and the state is this now; it knows no more about the transaction
pub record IsWithout (old new : SeatState) (t : LockState) (name : List ℕ) : Type 0 where
  pub seat : new ≡ seat_of old (record (giving_up t name old.knows) { notes = new.knows.notes })
  pub notes : (fact : Fact) → IsApartFrom name fact → IsIn fact old.knows.notes → IsIn fact new.knows.notes

-- the fact is about a direct write
abbrev pub is_of_direct : Fact → Bool
is_of_direct (direct_free key) = true
is_of_direct other = false

-- a fact that is noted without a turn, and is not about a direct write
abbrev pub IsNoDirect : Fact → Type 0
IsNoDirect fact = (guarded_by fact ≡ None) × (is_of_direct fact ≡ false)

-- the fact says of this key that it is unchanged
abbrev pub is_of_key : List ℕ → Fact → Bool
is_of_key key (unchanged name other n) = bytes_eq key other
is_of_key key other = false

-- a fact that is noted without a turn, and does not say of this key that it is unchanged
abbrev pub IsOfOtherKey : List ℕ → Fact → Type 0
IsOfOtherKey key fact = (guarded_by fact ≡ None) × (is_of_key key fact ≡ false)

-- The seat, which held this state with the key free, locked the key for its transaction, and saw the history. It noted that the key is
-- unchanged since all of it, and had noted of the key no such fact.
pub record LocksUnchanged (old : SeatState) (t : LockState) (name key : List ℕ) (new : SeatState) : Type 0 where
  pub history : List Entry
  pub seat : new ≡ seat_of old (with_locked t history name key old.knows)
  pub grown : StartsWith history old.knows.participant.seen
  pub free : finite.get t.keys key ≡ None
  pub first : (fact : Fact) → is_of_key key fact ≡ true → IsIn fact old.knows.notes → ⊥

-- its transaction of this name has the key no more, and the state is this now; it knows no more of the key that it is unchanged
pub record IsWithoutKey (old new : SeatState) (t : LockState) (name key : List ℕ) : Type 0 where
  pub seat : new ≡ seat_of old (record (freeing_key t name key old.knows) { notes = new.knows.notes })
  pub notes : (fact : Fact) → IsOfOtherKey key fact → IsIn fact old.knows.notes → IsIn fact new.knows.notes

-- its direct write is over, and the state is this now; it knows no more about a direct write
pub record IsWithoutDirect (old new : SeatState) (t : LockState) : Type 0 where
  pub seat : new ≡ seat_of old (record (ending_direct t old.knows) { notes = new.knows.notes })
  pub notes : (fact : Fact) → IsNoDirect fact → IsIn fact old.knows.notes → IsIn fact new.knows.notes

-- The seat saw the history, and took the undecided prepare of the name; the keys of its batch were held for it. A history that the
-- seat holds is that one.
pub record TakesPrepare (old : SeatState) (t : LockState) (name : List ℕ) (new : SeatState) : Type 0 where
  pub history : List Entry
  pub seat : new ≡ seat_of old (with_taken t history name old.knows)
  pub seen : StartsWith history old.knows.participant.seen
  pub named_there : is_some (named history name) ≡ true
  pub keys : (key : List ℕ) → is_changed (batch_of_name history name) key ≡ true → finite.get t.keys key ≡ Some (Txn name)
  pub same : (d : WriteState) → IsIn (writes d) old.knows.held → history ≡ d.history
