-- The live names, the held keys and the board.
use Rattle.std.specs.Prelude.{◌≡◌, ◌&&◌, ℕ, Bool, true, false, not, List, [], ◌∷◌, ◌++◌, fold, Option, Some, None, is_some, Result, Ok, Err, if◌then◌else◌}
use Rattle.std.specs.Str.{bytes_eq}
use Rattle.std.specs.FinMap as map
use Rattle.std.specs.BTreeMap as tree
use Rattle.wp_model.specs.Batch.{key_cmp}
use Rattle.wp_model.specs.declared.change.Change.{Change}
use Rattle.wp_model.specs.declared.holder.Holder.{Holder}
use Rattle.wp_model.specs.declared.holder.Holder.TheVariants.{Txn, Client}
use Rattle.wp_model.specs.History.{is_changed}
use Rattle.wp_locks.specs.declared.error.LockError.{LockError}
use Rattle.wp_locks.specs.declared.error.LockError.TheVariants.{Memory, Taken, Unknown, InUse, Busy}
use Rattle.wp_locks.specs.declared.error.TakeRefused.{TakeRefused}
use Rattle.wp_model.specs.Holder.{is_same_txn}
use Rattle.wp_model.specs.LockState.{Names, Keys, LockState, is_among_keys}

-- what `claim_name` answers, and what it leaves
abbrev pub Claims : LockState → List ℕ → List ℕ → Result (Unit {0}) LockError → LockState → Type 0
Claims old name client (Ok done) new = (map.get old.names name ≡ None) × (new ≡ record old { names = map.insert old.names name (Some client) })
Claims old name client (Err Memory) new = (map.get old.names name ≡ None) × (new ≡ old)
Claims old name client (Err (Taken taken)) new = (is_some (map.get old.names name) ≡ true) × (taken ≡ name) × (new ≡ old)
Claims old name client (Err (Unknown unknown)) new = ⊥
Claims old name client (Err (InUse used)) new = ⊥
Claims old name client (Err (Busy holder)) new = ⊥

-- the names once this one, where it is live, has no client
abbrev pub names_left : Names → List ℕ → Names
names_left names name = if is_some (map.get names name) then map.insert names name None else names

-- why `take_name` refused, where the name had this
abbrev pub RefusesTake : Option (Option (List ℕ)) → List ℕ → LockError → Type 0
RefusesTake None name (Unknown unknown) = unknown ≡ name
RefusesTake (Some (Some client)) name (InUse used) = used ≡ name
RefusesTake found name why = ⊥

-- what `take_name` answers, and what it leaves
abbrev pub TakesName : LockState → List ℕ → List ℕ → Result (Unit {0}) TakeRefused → LockState → Type 0
TakesName old name client (Ok done) new = (map.get old.names name ≡ Some None) × (new ≡ record old { names = map.insert old.names name (Some client) })
TakesName old name client (Err refused) new = RefusesTake (map.get old.names name) name refused.why × (refused.client ≡ client) × (new ≡ old)

-- whether the key is free for the holder: nobody holds it, or it is the same transaction's
abbrev pub is_free_for : Option Holder → Holder → Bool
is_free_for None holder = true
is_free_for (Some other) holder = is_same_txn other holder

-- what `lock` answers, and what it leaves
abbrev pub Locking : LockState → List ℕ → Holder → Result (Unit {0}) LockError → LockState → Type 0
Locking old key holder (Ok done) new = (is_free_for (map.get old.keys key) holder ≡ true) × (new ≡ record old { keys = map.insert old.keys key holder })
Locking old key holder (Err Memory) new = new ≡ old
Locking old key holder (Err (Busy other)) new = (map.get old.keys key ≡ Some other) × (is_same_txn other holder ≡ false) × (new ≡ old)
Locking old key holder (Err (Taken taken)) new = ⊥
Locking old key holder (Err (Unknown unknown)) new = ⊥
Locking old key holder (Err (InUse used)) new = ⊥

-- the held keys without these
abbrev pub keys_without : Keys → List (List ℕ) → Keys
keys_without held keys = fold (λ left key. map.remove left key) held keys

-- none of the keys is there twice
abbrev pub AreOnce : List (List ℕ) → Type 0
AreOnce [] = Unit {0}
AreOnce (key ∷ keys) = (is_among_keys keys key ≡ false) × AreOnce keys

-- the key, with its holder, is held for the transaction of this name, and the batch does not change it
abbrev pub is_beyond : List ℕ → List Change → List ℕ → Holder → Bool
is_beyond name batch key (Txn other) = bytes_eq other name && not (is_changed batch key)
is_beyond name batch key (Client other) = false

-- just the keys that are held for the transaction of this name and that the batch does not change, each once
pub record AreBeyond (t : LockState) (name : List ℕ) (batch : List Change) (keys : List (List ℕ)) : Type 0 where
  pub held : (key : List ℕ) → is_among_keys keys key ≡ true → (map.get t.keys key ≡ Some (Txn name)) × (is_changed batch key ≡ false)
  pub all : (key : List ℕ) → map.get t.keys key ≡ Some (Txn name) → is_changed batch key ≡ false → is_among_keys keys key ≡ true
  pub once : AreOnce keys

-- the entries come before those of the tree: what is under a key is what they have first, and then its own
abbrev pub Joins : {X : Type 0} → List (List ℕ × X) → tree.BTreeMap (List ℕ) X → tree.BTreeMap (List ℕ) X → Type 0
Joins {X} added old new = (es : List (List ℕ × X)) → map.from_entries {R = key_cmp} old.entries ≡ map.from_entries es → map.from_entries {R = key_cmp} new.entries ≡ map.from_entries (added ++ es)
