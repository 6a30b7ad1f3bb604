-- What two lists have in common from a base on.
use Rattle.std.specs.Prelude.{◌≡◌, ℕ, ◌<◌, ◌≤◌, true, List, length, take, drop, Option, Some}
use Rattle.wp_model.specs.declared.entry.Entry.{Entry}
use Rattle.wp_model.specs.Changed.{conflict}
use Rattle.wp_model.specs.History.{entry_at, is_undecided, undecided, named, holder_of, value_at}
use Rattle.wp_model.specs.Decision.{entry_version, decision_of, is_committed}
use Rattle.wp_model.specs.Flushed.{later_versions}
use Rattle.wp_model.specs.Rows.{rows as rows_of}
use Rattle.wp_cuts.specs.Cut.{cut_at}

-- both have the same values at the base
abbrev pub HaveSameValues : List Entry → List Entry → ℕ → Type 0
HaveSameValues one other base = (key : List ℕ) → value_at one key base ≡ value_at other key base

-- What both have at each number from the base on: values, undecided prepares, names and keys that these hold. Each entry
-- behind the base, and each prepare that is undecided there, is the same and has the same decision. Of a number that has
-- versions in both, both say alike from which number on it is committed. Cut at a later number, both have one cut.
pub record AgreeFrom (one other : List Entry) (base : ℕ) : Type 0 where
  pub long : length one ≡ length other
  pub values : (key : List ℕ) (n : ℕ) → base ≤ n → n ≤ length one → value_at one key n ≡ value_at other key n
  pub prepares : (n : ℕ) → base ≤ n → n ≤ length one → undecided (take n one) ≡ undecided (take n other)
  pub names : (name : List ℕ) (n : ℕ) → base ≤ n → n ≤ length one → named (take n one) name ≡ named (take n other) name
  pub keys : (key : List ℕ) (n : ℕ) → base ≤ n → n ≤ length one → holder_of (take n one) key ≡ holder_of (take n other) key
  pub entries : (p : ℕ) → base < p → entry_at one p ≡ entry_at other p
  pub decisions : (p : ℕ) → base < p → decision_of one p ≡ decision_of other p
  pub carried : (p : ℕ) → is_undecided (take base one) p ≡ true → entry_at one p ≡ entry_at other p
  pub carried_decisions : (p : ℕ) → is_undecided (take base one) p ≡ true → decision_of one p ≡ decision_of other p
  pub committed : (key : List ℕ) (p n : ℕ) (value its : Option (List ℕ)) → base ≤ n → entry_version one p key ≡ Some value → entry_version other p key ≡ Some its → is_committed one p n ≡ is_committed other p n
  pub cuts : (m : ℕ) → base ≤ m → m ≤ length one → cut_at one m ≡ cut_at other m

-- What a reply may be judged by is the same in both, at each number n from the base on: all that lists agree in also when cut short
-- there, which prepares were undecided then, their entries, then and in the whole list, the entries behind, the versions of
-- those above one number and up to another, the last of these that changed a key, and the rows of a range.
pub record TellAlike (one other : List Entry) (base : ℕ) : Type 0 where
  pub whole : AgreeFrom one other base
  pub fronts : (n : ℕ) → base ≤ n → n ≤ length one → AgreeFrom (take n one) (take n other) base
  pub undecided : (p n : ℕ) → base ≤ n → n ≤ length one → is_undecided (take n one) p ≡ is_undecided (take n other) p
  pub prepared : (p n : ℕ) → base ≤ n → n ≤ length one → is_undecided (take n one) p ≡ true → entry_at (take n one) p ≡ entry_at (take n other) p
  pub own : (p n : ℕ) → base ≤ n → n ≤ length one → is_undecided (take n one) p ≡ true → entry_at one p ≡ entry_at other p
  pub behind : (n : ℕ) → base ≤ n → n ≤ length one → drop n one ≡ drop n other
  pub later : (m n : ℕ) → base ≤ m → n ≤ length one → later_versions (take n one) m ≡ later_versions (take n other) m
  pub rows : (from to : List ℕ) (n : ℕ) → base ≤ n → n ≤ length one → rows_of one from to n ≡ rows_of other from to n
  pub conflicts : (key : List ℕ) (m n : ℕ) → base ≤ m → n ≤ length one → conflict (take n one) key m ≡ conflict (take n other) key m
