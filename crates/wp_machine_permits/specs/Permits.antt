-- When the test of a step may say yes.
use Rattle.std.specs.Prelude.{◌≡◌, ℕ, suc, true, List, [], ◌∷◌, ◌++◌, ◌⊎◌, Option, Some, None}
use Rattle.wp_model.specs.declared.entry.Entry.{Entry}
use Rattle.wp_model.specs.declared.entry.Entry.TheVariants.{Prepare}
use Rattle.wp_model.specs.Legal.{IsLegal, IsLegalNext}
use Rattle.wp_core.specs.World.{World, Actor, Transaction, published}
use Rattle.wp_core.specs.Conditions.{HasTransaction, IsHeldFor, IsOwn, IsPrepare}
use Rattle.wp_core.specs.Sound.Prepared.{IsEntered}
use Rattle.wp_core.specs.Entries.{pair_by, written}
use Rattle.wp_core.specs.Lists.{IsIn}
use Rattle.wp_core.specs.Views.{locked}
use Rattle.std.specs.FinSet as set
use Rattle.std.specs.FinMap as finite
use Rattle.wp_judge.specs.Words.{CommitPair}
use Rattle.wp_model.specs.declared.change.Change.{Change}
use Rattle.wp_model.specs.declared.holder.Holder.TheVariants.{Txn, Client}
use Rattle.wp_model.specs.Decision.{version_in}
use Rattle.wp_model.specs.History.{named, is_changed}
use Rattle.wp_model.specs.Versions.{version_at}

-- the entry may follow, and with it the history is legal
pub record MayFollow (history : List Entry) (entry : Entry) : Type 0 where
  pub next : IsLegalNext history entry
  pub legal : IsLegal (history ++ entry ∷ [])

-- the key is held for the actor: for its direct write, or for a transaction of it that is not prepared in this history
pub record IsHeldKey (history : List Entry) (w : World) (a : Actor) (key : List ℕ) : Type 0 where
  pub held : ((a.participant.direct ≡ Some key) × (finite.get w.locks.keys key ≡ Some (Client a.participant.client)))
      ⊎ ((name : List ℕ) × (t : Transaction) × HasTransaction a name t × (finite.get w.locks.keys key ≡ Some (Txn name)) × (named history name ≡ None))

-- the transaction is the actor's
pub record IsOwned (a : Actor) (name : List ℕ) : Type 0 where
  pub transaction : Transaction
  pub there : HasTransaction a name transaction

-- the transaction locked the key, and the state has it as the holder
abbrev pub IsLocked : World → Transaction → List ℕ → List ℕ → Type 0
IsLocked w t name key = (set.contains t.locked key ≡ true) × (finite.get w.locks.keys key ≡ Some (Txn name))

-- the transaction is the actor's, and locked each key that the changes need
pub record IsOwner (w : World) (a : Actor) (name : List ℕ) (changes : List Change) : Type 0 where
  pub transaction : Transaction
  pub there : HasTransaction a name transaction
  pub keys : (key : List ℕ) → is_changed changes key ≡ true → IsLocked w transaction name key

-- the actor locked each key of its transaction of this name itself
pub record LockedItsKeys (a : Actor) (name : List ℕ) : Type 0 where
  pub each : (t : Transaction) (key : List ℕ) → HasTransaction a name t → set.contains t.locked key ≡ true → IsIn (locked key (Txn name)) a.participant.past

-- the entry may come next, the keys of a Write are held for the actor, the transaction that it is of is the actor's, and who prepares
-- one locked each of its keys itself
pub record IsEntitled (w : World) (a : Actor) (entry : Entry) : Type 0 where
  pub legal : IsLegal (w.writes.history ++ entry ∷ [])
  pub keys : (key : List ℕ) → is_changed (written entry) key ≡ true → IsHeldFor w a key
  pub transaction : IsOwn w a entry
  pub came : (name : List ℕ) (batch : List Change) → entry ≡ Prepare name batch → LockedItsKeys a name

-- its versions are in memory, the number of a Prepare is in the heap, and the pair of any other is in its word, or is a wide one and delayed
pub record IsMade (w : World) (entry : Entry) : Type 0 where
  pub versions : (key : List ℕ) (value : Option (List ℕ)) → version_in (Some entry) key ≡ Some value → version_at w.store.memory key (suc (published w)) ≡ Some value
  pub number : IsPrepare entry → set.contains w.prepared.heap (suc (published w)) ≡ true
  pub pair : (pair : CommitPair) → pair_by (suc (published w)) entry ≡ Some pair → IsEntered w.cache w.prepared.delayed_commits w.max_evicted pair
