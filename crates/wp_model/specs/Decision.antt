-- The versions of keys that a history holds, committed or not.
use Rattle.std.specs.Prelude.{◌≡◌, ℕ, suc, ◌<◌, ◌≤◌, Bool, false, nat_le, List, Option, Some, None, option_map}
use Rattle.std.specs.List.{position}
use Rattle.wp_model.specs.declared.entry.Entry.{Entry}
use Rattle.wp_model.specs.declared.entry.Entry.TheVariants.{Write, Prepare, Undo}
use Rattle.wp_model.specs.Batch.{change_to}
use Rattle.wp_model.specs.History.{entry_at, decides}
use Rattle.wp_model.specs.Legal.{changes_in}

-- the version of a key that an entry has, if it has one: a value, or a deletion
abbrev pub version_in : Option Entry → List ℕ → Option (Option (List ℕ))
version_in None key = None
version_in (Some entry) key = change_to (changes_in entry) key

-- the version of the key with that number
abbrev pub entry_version : List Entry → ℕ → List ℕ → Option (Option (List ℕ))
entry_version history p key = version_in (entry_at history p) key

abbrev pub decision_in : List Entry → ℕ → Option Entry → Option ℕ
decision_in history p (Some (Write batch)) = Some p
decision_in history p (Some (Undo q batch)) = Some p
decision_in history p (Some (Prepare name batch)) = option_map suc (position (decides p) history)
decision_in history p other = None

-- The number that decides the entry with that number: that of a Write or an Undo is its own, that of a Prepare is the
-- number of its Commit or Close, if there is one.
abbrev pub decision_of : List Entry → ℕ → Option ℕ
decision_of history p = decision_in history p (entry_at history p)

-- a number by which something is committed, if there is one, is at most n
abbrev pub is_by : Option ℕ → ℕ → Bool
is_by None n = false
is_by (Some commit) n = nat_le commit n

-- the versions with the number p are committed at n
abbrev pub is_committed : List Entry → ℕ → ℕ → Bool
is_committed history p n = is_by (decision_of history p) n

-- the versions with that number count from a number on that is at most n
pub record IsCommittedAt (history : List Entry) (p n : ℕ) : Type 0 where
  pub by : ℕ
  pub decided : decision_of history p ≡ Some by
  pub within : by ≤ n

-- The version of the key with that number is the newest one that is committed at n.
pub record IsNewestCommitted (history : List Entry) (key : List ℕ) (n p : ℕ) : Type 0 where
  pub value : Option (List ℕ)
  pub there : entry_version history p key ≡ Some value
  pub committed : IsCommittedAt history p n
  pub newest : (q : ℕ) → p < q → IsCommittedAt history q n → entry_version history q key ≡ None

-- the key has no version that is committed at n
abbrev pub HasNoneCommitted : List Entry → List ℕ → ℕ → Type 0
HasNoneCommitted history key n = (p : ℕ) → IsCommittedAt history p n → entry_version history p key ≡ None
