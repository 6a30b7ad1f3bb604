-- What is so of a transaction of a participant, and of its direct write.
use Rattle.std.specs.Prelude.{◌≡◌, ℕ, ◌≤◌, true, List, length, Some, None}
use Rattle.std.specs.FinSet as set
use Rattle.std.specs.FinMap as finite
use Rattle.wp_model.specs.declared.change.Change.{Change}
use Rattle.wp_model.specs.declared.entry.Entry.{Entry}
use Rattle.wp_model.specs.declared.holder.Holder.TheVariants.{Txn, Client}
use Rattle.wp_model.specs.History.{named, batch_at, is_changed, holder_of}
use Rattle.wp_model.specs.Legal.{prior}
use Rattle.wp_model.specs.LockState.{LockState}
use Rattle.wp_core.specs.World.{Transaction, Participant}
use Rattle.wp_core.specs.Sound.Views.{Owns, OwnsKey, AreKeysOf}
use Rattle.wp_model.specs.Changed.{IsUnchanged}

-- the keys of the changes are held for the transaction
abbrev pub AreHeldFor : LockState → List Change → List ℕ → Type 0
AreHeldFor locks changes name = (key : List ℕ) → is_changed changes key ≡ true → finite.get locks.keys key ≡ Some (Txn name)

abbrev pub IsUndecidedAt : List Entry → LockState → Participant → List ℕ → ℕ → Type 0
IsUndecidedAt history locks a name p = Owns a name × (named history name ≡ Some p) × (finite.get locks.names name ≡ Some (Some a.client)) × AreHeldFor locks (batch_at history p) name

abbrev pub HasPrior : List Entry → Participant → List ℕ → ℕ → List Change → Type 0
HasPrior history a name p batch = Owns a name × (named history name ≡ Some p) × (prior history (batch_at history p) ≡ batch)

-- no key that the transaction locked is in an undecided batch
abbrev pub NoneHeld : List Entry → Participant → List ℕ → Type 0
NoneHeld history a name = (x : Transaction) (key : List ℕ) → finite.get a.transactions name ≡ Some x → set.contains x.locked key ≡ true → holder_of history key ≡ None

abbrev pub IsUnprepared : List Entry → Participant → List ℕ → Type 0
IsUnprepared history a name = Owns a name × (named history name ≡ None) × NoneHeld history a name

abbrev pub IsDirectFree : List Entry → LockState → Participant → List ℕ → Type 0
IsDirectFree history locks a key = (a.direct ≡ Some key) × (finite.get locks.keys key ≡ Some (Client a.client)) × (holder_of history key ≡ None)

abbrev pub HasUnchanged : List Entry → Participant → List ℕ → List ℕ → ℕ → Type 0
HasUnchanged history a name key n = OwnsKey a name key × (n ≤ length history) × IsUnchanged history key n

abbrev pub HasLocksStay : List Entry → LockState → List ℕ → ℕ → List (List ℕ) → Type 0
HasLocksStay history locks name p keys = (p ≤ length history) × (named history name ≡ Some p → AreKeysOf locks.keys name keys)
