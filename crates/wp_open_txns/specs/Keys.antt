-- How a key comes to an open transaction, and a change.
use Rattle.std.specs.Prelude.{◌≡◌, ℕ, ◌≤◌, true, false, List, length, Option, None, Some, Result, Ok, Err}
use Rattle.std.specs.FinMap as finite
use Rattle.wp_model.specs.declared.change.Change.{Change}
use Rattle.wp_model.specs.declared.holder.Holder.TheVariants.{Txn}
use Rattle.wp_model.specs.Batch.{with_change, is_batch}
use Rattle.wp_model.specs.Changed.{IsUnchanged}
use Rattle.wp_core.specs.Lists.{IsIn}
use Rattle.wp_core.specs.Reading.{Registration}
use Rattle.wp_core.specs.Views.{Fact, unchanged}
use Rattle.wp_shared.specs.Calls.{ContinuesWith, Continues}
use Rattle.wp_shared.specs.Seats.{SharedState, SeatState}
use Rattle.wp_open_txns.specs.declared.error.TxnError.{TxnError}
use Rattle.wp_open_txns.specs.declared.error.TxnError.TheVariants.{Memory, Busy, Conflict}
use Rattle.wp_open_txns.specs.Actors.{transaction_in, with_key_freed}
use Rattle.wp_open_txns.specs.Calls.{Keeps, Finds, LocksWere, LocksAre, with_transaction, locking, ComesFree, GivesBack, Conflicts}
use Rattle.wp_open_txns.specs.Turns.{is_of_key, IsOfOtherKey}
use Rattle.wp_open_txns.specs.Txn.{OpenState, has_key, IsSince}

-- the batch with the change, which has room for it
abbrev pub ChangesBatch : List Change → Change → Result (List Change) TxnError → Type 0
ChangesBatch batch change (Ok changed) = (changed ≡ with_change batch change) × (is_batch changed ≡ true)
ChangesBatch batch change (Err Memory) = Unit {0}
ChangesBatch batch change (Err other) = ⊥

-- The key was free as the seat found it, and is locked for the transaction. The seat noted that it is unchanged since so many entries, no
-- fewer than it had seen, and has seen these; it had noted no such fact of the key before.
pub record HoldsFree {D : Type 0} (z : SharedState D) (old : SeatState) (name key : List ℕ) (new : SeatState) : Type 0 where
  pub goes_on : Continues z old new (locking false name key old.knows.participant)
  pub free : LocksWere z old (λ t. finite.get t.keys key ≡ None)
  pub number : ℕ
  pub noted : IsIn (unchanged name key number) new.knows.notes
  pub reached : length old.knows.participant.seen ≤ number
  pub seen : number ≤ length new.knows.participant.seen
  pub first : (fact : Fact) → is_of_key key fact ≡ true → IsIn fact old.knows.notes → ⊥

abbrev pub HoldsKey : {D : Type 0} → SharedState D → SeatState → List ℕ → List ℕ → Result (Unit {0}) TxnError → SeatState → Type 0
HoldsKey z old name key (Ok done) new = HoldsFree z old name key new
HoldsKey z old name key (Err (Busy holder)) new = (holder ≡ Txn name → ⊥) × Finds z old new (Some key) holder
HoldsKey z old name key (Err Memory) new = Keeps z old new
HoldsKey z old name key (Err other) new = ⊥

-- The seat goes on as it was, but for what it has seen. In that history the key was changed last with this number above the pin; or it is
-- unchanged since the pin, which is noted, or there is no pin.
abbrev pub Validates : {D : Type 0} → SharedState D → SeatState → OpenState → List ℕ → Option ℕ → SeatState → Type 0
Validates z old txn key None new =
    Continues z old new old.knows.participant × ((r : Registration) → txn.pin ≡ Some r → IsUnchanged new.knows.participant.seen key r.number × IsIn (unchanged txn.name key r.number) new.knows.notes)
Validates z old txn key (Some number) new = Continues z old new old.knows.participant × Conflicts txn key number new

-- the transaction of this name has the key no more, and it is free
pub record FreesKey {D : Type 0} (z : SharedState D) (old new : SeatState) (name key : List ℕ) : Type 0 where
  pub goes_on : ContinuesWith (IsOfOtherKey key) z old new (with_transaction name (with_key_freed key (transaction_in old.knows.participant name)) old.knows.participant)
  pub freed : LocksAre z new (λ t. finite.get t.keys key ≡ None)

-- The transaction, which had nothing of the key, has it locked now: it came to it, and the seat knows since when it is unchanged. The seat
-- had noted no such fact of the key before. Or the transaction has nothing of the key still.
abbrev pub TakesKey : {D : Type 0} → SharedState D → SeatState → OpenState → List ℕ → Result (Unit {0}) TxnError → SeatState → Type 0
TakesKey z old txn key (Ok done) new =
    Continues z old new (locking false txn.name key old.knows.participant) × ComesFree z old txn key new × IsSince new txn.name key txn.pin
    × ((fact : Fact) → is_of_key key fact ≡ true → IsIn fact old.knows.notes → ⊥)
TakesKey z old txn key (Err (Busy holder)) new = (holder ≡ Txn txn.name → ⊥) × Finds z old new (Some key) holder
TakesKey z old txn key (Err (Conflict number)) new = Conflicts txn key number new × GivesBack z old new txn key
TakesKey z old txn key (Err Memory) new = Keeps z old new
TakesKey z old txn key (Err other) new = ⊥

-- The transaction has the key: it had it, and nothing was done, or it comes to it. Or it has nothing of it still.
abbrev pub ComesTo : {D : Type 0} → SharedState D → SeatState → OpenState → List ℕ → Result (Unit {0}) TxnError → SeatState → Type 0
ComesTo z old txn key (Ok done) new =
    Continues z old new (locking (has_key txn.batch txn.locked key) txn.name key old.knows.participant) × IsSince new txn.name key txn.pin
    × (has_key txn.batch txn.locked key ≡ false → ComesFree z old txn key new)
ComesTo z old txn key (Err why) new = (has_key txn.batch txn.locked key ≡ false) × TakesKey z old txn key (Err why) new
