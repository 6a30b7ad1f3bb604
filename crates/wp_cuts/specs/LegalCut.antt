-- A legal cut, with the values at its base; and how the versions of a store lie below what it carries.
use Rattle.std.specs.Prelude.{◌≡◌, ℕ, ◌+◌, ◌<◌, ◌≤◌, true, List, [], ◌++◌, length, map, take, fold, Option, Some, slice_get}
use Rattle.std.specs.List.{AllByRecursion}
use Rattle.wp_model.specs.declared.carried.Carried.{Carried}
use Rattle.wp_model.specs.declared.entry.Entry.{Entry}
use Rattle.wp_model.specs.declared.entry.Entry.TheVariants.{Undo}
use Rattle.wp_model.specs.declared.version.Version.{Version}
use Rattle.wp_model.specs.Batch.{key_of, are_ascending}
use Rattle.wp_model.specs.History.{batch_at, is_changed, value_after}
use Rattle.wp_model.specs.Legal.{change_that_leaves, IsOrderlyNext, log_end}
use Rattle.wp_model.specs.Versions.{version_at}
use Rattle.wp_history_laws.specs.Growth.{AreAscending}
use Rattle.wp_cuts.specs.Cut.{Cut, carried_at, is_fixed, full_of}

-- ---- what a base carries

-- numbers from 1 to the base, ascending
pub record AreNumbered (c : Cut) : Type 0 where
  pub ascend : AreAscending (map (λ x. x.number) c.carried)
  pub within : AllByRecursion (λ (x : Carried). (1 ≤ x.number) × (x.number ≤ c.base)) c.carried

-- no two prepares have a name or a key together, and the keys of each ascend
pub record AreApart (c : Cut) : Type 0 where
  pub ascending : (p : ℕ) (x : Carried) → carried_at c p ≡ Some x → are_ascending x.batch ≡ true
  pub names : (p q : ℕ) (x y : Carried) → carried_at c p ≡ Some x → carried_at c q ≡ Some y → x.name ≡ y.name → p ≡ q
  pub keys : (p q : ℕ) (x y : Carried) (key : List ℕ) → carried_at c p ≡ Some x → carried_at c q ≡ Some y
      → is_changed x.batch key ≡ true → is_changed y.batch key ≡ true → p ≡ q

-- ---- the entries behind it

-- the cut with the first n of its entries
abbrev pub cut_front : Cut → ℕ → Cut
cut_front c n = record c { entries = take n c.entries }

-- its prepares, each at its number, with nothing else up to the base
abbrev pub prepares_of : Cut → List Entry
prepares_of c = full_of c []

-- what its entries leave under the key, from these values on
abbrev pub value_behind : Cut → (List ℕ → Option (List ℕ)) → List ℕ → Option (List ℕ)
value_behind c values key = fold (value_after (prepares_of c) key) (values key) c.entries

-- an undo that follows holds what the keys of its prepare have there
abbrev pub RestoresBehind : Cut → (List ℕ → Option (List ℕ)) → Entry → Type 0
RestoresBehind c values (Undo p batch) = batch ≡ map (λ change. change_that_leaves (key_of change) (value_behind c values (key_of change))) (batch_at (prepares_of c) p)
RestoresBehind c values other = Unit {0}

-- ---- together

-- The prepares that it carries fit one another, and each entry may follow those before it, but for what an undo restores.
pub record IsOrderlyCut (c : Cut) : Type 0 where
  pub few : c.base + length c.entries < log_end
  pub numbered : AreNumbered c
  pub apart : AreApart c
  pub each : (n : ℕ) (entry : Entry) → slice_get c.entries n ≡ Some entry → IsOrderlyNext (prepares_of (cut_front c n)) entry

-- besides, each undo restores what a key had, where the values are those at the base
pub record IsLegalCut (c : Cut) (values : List ℕ → Option (List ℕ)) : Type 0 where
  pub orderly : IsOrderlyCut c
  pub restores : (n : ℕ) (entry : Entry) → slice_get c.entries n ≡ Some entry → RestoresBehind (cut_front c n) values entry

-- a fixed version of a carried prepare's key is below that prepare
abbrev pub AreBelow : Cut → List Version → Type 0
AreBelow c versions = (key : List ℕ) (q p : ℕ) (value : Option (List ℕ)) (x : Carried) → version_at versions key q ≡ Some value → is_fixed c q ≡ true
    → carried_at c p ≡ Some x → is_changed x.batch key ≡ true → q < p

-- each of these entries is orderly behind a list and those of them that are before it
abbrev pub AreOrderlyBehind : List Entry → List Entry → Type 0
AreOrderlyBehind before entries = (n : ℕ) (entry : Entry) → slice_get entries n ≡ Some entry → IsOrderlyNext (before ++ take n entries) entry
