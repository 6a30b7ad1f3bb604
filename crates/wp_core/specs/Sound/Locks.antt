-- What is so of names and keys.
use Rattle.std.specs.Prelude.{◌≡◌, ◌⊎◌, ℕ, ◌≤◌, ◌<◌, true, List, length, take, Option, Some, None, is_some}
use Rattle.std.specs.FinSet as set
use Rattle.std.specs.FinMap as finite
use Rattle.wp_model.specs.declared.entry.Entry.{Entry}
use Rattle.wp_model.specs.Changed.{IsUnchanged}
use Rattle.wp_model.specs.History.{is_undecided, is_changed, name_at, batch_at, named}
use Rattle.wp_model.specs.declared.holder.Holder.TheVariants.{Txn, Client}
use Rattle.wp_core.specs.Lists.{IsIn}
use Rattle.wp_model.specs.LockState.{LockState}
use Rattle.wp_core.specs.Views.{Event, claimed, took, locked}
use Rattle.wp_core.specs.World.{Transaction, Transactions, Participant}
use Rattle.wp_core.specs.Sound.Actors.{IsParticipantAt, EachParticipant}

-- what one of the participants has of names and keys, and its past
pub record Owner : Type 0 where
  pub client : List ℕ
  pub transactions : Transactions
  pub direct : Option (List ℕ)
  pub past : List Event

abbrev pub owner_of : Participant → Owner
owner_of p = record { client = p.client; transactions = p.transactions; direct = p.direct; past = p.past }

abbrev pub Has : Owner → List ℕ → Transaction → Type 0
Has o name x = finite.get o.transactions name ≡ Some x

-- it claimed or took the name
abbrev pub Began : List Event → List ℕ → Type 0
Began past name = IsIn (claimed name) past ⊎ IsIn (took name) past

-- an actor of this client has the name, and began it
pub record IsNameOf (owners : List (List Owner)) (name client : List ℕ) : Type 0 where
  pub at : ℕ
  pub place : ℕ
  pub owner : Owner
  pub transaction : Transaction
  pub there : IsParticipantAt owners at place owner
  pub client_is : owner.client ≡ client
  pub has : Has owner name transaction
  pub began : Began owner.past name

-- an actor of this client has a direct write of the key, and locked it
pub record IsDirectOf (owners : List (List Owner)) (key client : List ℕ) : Type 0 where
  pub at : ℕ
  pub place : ℕ
  pub owner : Owner
  pub there : IsParticipantAt owners at place owner
  pub client_is : owner.client ≡ client
  pub has : owner.direct ≡ Some key
  pub began : IsIn (locked key (Client client)) owner.past

-- the prepare with this number changes the key, where one is given
abbrev pub HasKeyAt : List Entry → ℕ → Option (List ℕ) → Type 0
HasKeyAt history p None = Unit {0}
HasKeyAt history p (Some key) = is_changed (batch_at history p) key ≡ true

-- When n entries were published, which are so many or more, a prepare of this name was undecided, and had the key, where one is given.
abbrev pub WasPrepared : List Entry → (from n : ℕ) → List ℕ → Option (List ℕ) → Type 0
WasPrepared history from n name key = (from ≤ n) × (n ≤ length history) × ((p : ℕ) × (named (take n history) name ≡ Some p) × HasKeyAt (take n history) p key)

-- a prepare of this name that has the key was undecided at a moment since the opening
abbrev pub PrepareHas : (opened history : List Entry) → (name key : List ℕ) → Type 0
PrepareHas opened history name key = (n : ℕ) × WasPrepared history (length opened) n name (Some key)

-- somebody locked the key for the transaction of this name
pub record WasLockedFor (owners : List (List Owner)) (name key : List ℕ) : Type 0 where
  pub at : ℕ
  pub place : ℕ
  pub owner : Owner
  pub there : IsParticipantAt owners at place owner
  pub began : IsIn (locked key (Txn name)) owner.past

-- How one that has the transaction of this name came to the key: it locked it; or it took the transaction, and a prepare that has
-- the key was undecided, or somebody locked it.
abbrev pub CameToKey : (opened history : List Entry) → List (List Owner) → List Event → (name key : List ℕ) → Type 0
CameToKey opened history owners past name key = IsIn (locked key (Txn name)) past ⊎ (IsIn (took name) past × (PrepareHas opened history name key ⊎ WasLockedFor owners name key))

-- each key of its transactions an owner came to
abbrev pub CameToKeys : (opened history : List Entry) → List (List Owner) → Owner → Type 0
CameToKeys opened history owners o = (name : List ℕ) (x : Transaction) (key : List ℕ) → Has o name x → set.contains x.locked key ≡ true → CameToKey opened history owners o.past name key

-- the prepare with this number and name has the key, or it came behind the opening and somebody locked the key for its name
abbrev pub HasOrLocked : (opened history : List Entry) → List (List Owner) → ℕ → (name key : List ℕ) → Type 0
HasOrLocked opened history owners p name key = (is_changed (batch_at history p) key ≡ true) ⊎ ((length opened < p) × WasLockedFor owners name key)

-- what an owner has is in the state
pub record IsOwner (t : LockState) (o : Owner) : Type 0 where
  pub names : (name : List ℕ) (x : Transaction) → Has o name x → finite.get t.names name ≡ Some (Some o.client)
  pub keys : (name : List ℕ) (x : Transaction) (key : List ℕ) → Has o name x → set.contains x.locked key ≡ true → finite.get t.keys key ≡ Some (Txn name)
  pub direct : (key : List ℕ) → o.direct ≡ Some key → finite.get t.keys key ≡ Some (Client o.client)

-- no two have the same transaction or direct key
pub record AreApart (owners : List (List Owner)) : Type 0 where
  pub names : (j i k l : ℕ) (o p : Owner) (name : List ℕ) (x y : Transaction) → IsParticipantAt owners j i o → IsParticipantAt owners k l p → Has o name x → Has p name y → (j ≡ k) × (i ≡ l)
  pub direct : (j i k l : ℕ) (o p : Owner) (key : List ℕ) → IsParticipantAt owners j i o → IsParticipantAt owners k l p → o.direct ≡ Some key → p.direct ≡ Some key → (j ≡ k) × (i ≡ l)

-- Each undecided prepare has its name live and its keys held; nothing else is live, and a key is held for a live
-- transaction or as a direct write's alone. A live name that nobody has is an undecided prepare's. A key that is held for the
-- transaction of an undecided prepare is unchanged since it, and is the prepare's, or somebody locked it.
pub record AreLocked (opened history : List Entry) (t : LockState) (owners : List (List Owner)) : Type 0 where
  pub prepared_names : (p : ℕ) → is_undecided history p ≡ true → is_some (finite.get t.names (name_at history p)) ≡ true
  pub prepared_keys : (p : ℕ) (key : List ℕ) → is_undecided history p ≡ true → is_changed (batch_at history p) key ≡ true → finite.get t.keys key ≡ Some (Txn (name_at history p))
  pub had : EachParticipant (IsOwner t) owners
  pub came : EachParticipant (CameToKeys opened history owners) owners
  pub apart : AreApart owners
  pub names_had : (name client : List ℕ) → finite.get t.names name ≡ Some (Some client) → IsNameOf owners name client
  pub names_left : (name : List ℕ) → finite.get t.names name ≡ Some None → is_some (named history name) ≡ true
  pub keys_live : (key name : List ℕ) → finite.get t.keys key ≡ Some (Txn name) → is_some (finite.get t.names name) ≡ true
  pub keys_known : (key name : List ℕ) → finite.get t.keys key ≡ Some (Txn name) → EachParticipant (λ o. (x : Transaction) → Has o name x → set.contains x.locked key ≡ true) owners
  pub keys_direct : (key client : List ℕ) → finite.get t.keys key ≡ Some (Client client) → IsDirectOf owners key client
  pub unchanged : (key name : List ℕ) (p : ℕ) → named history name ≡ Some p → finite.get t.keys key ≡ Some (Txn name) → IsUnchanged history key p
  pub beyond : (key name : List ℕ) (p : ℕ) → named history name ≡ Some p → finite.get t.keys key ≡ Some (Txn name) → HasOrLocked opened history owners p name key
