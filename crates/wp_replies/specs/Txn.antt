-- A client's transaction, by what the client was answered.
use Rattle.std.specs.Prelude.{ℕ, ◌||◌, Bool, List, Option}
use Rattle.wp_model.specs.declared.change.Change.{Change}
use Rattle.wp_model.specs.History.{is_changed}
use Rattle.wp_model.specs.LockState.{is_among_keys}

-- An open transaction: the name that it is begun under, what it has changed so far, the keys that it locked without a change, and the
-- number of its pin, if it has one.
pub record Staged : Type 0 where
  pub name : List ℕ
  pub batch : List Change
  pub locked : List (List ℕ)
  pub pin : Option ℕ

pub data Txn : Type 0 where
  Idle : Txn  -- none is begun
  Open : Staged → Txn
  Prepared : ℕ → Txn  -- one is prepared, by the entry with this number

-- the key is one of the open transaction's: changed or locked
abbrev pub is_its_key : Staged → List ℕ → Bool
is_its_key own key = is_changed own.batch key || is_among_keys own.locked key

-- the keys that a transaction had locked without a change as it was prepared, by the entry with this number
pub record LockedKeys : Type 0 where
  pub number : ℕ
  pub keys : List (List ℕ)
