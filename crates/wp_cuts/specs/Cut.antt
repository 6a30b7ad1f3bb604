-- A history cut at a base, and the full list that stands for a cut and the versions of a store.
use Rattle.std.specs.Prelude.{◌≡◌, ℕ, ◌≤◌, Bool, true, false, ◌==◌, ◌&&◌, not, nat_le, List, ◌++◌, length, map, take, drop, Option, Some, None, is_some}
use Rattle.std.specs.List.{filter, find, range_with_len}
use Rattle.std.specs.Str.{bytes_eq}
use Rattle.wp_model.specs.declared.carried.Carried.{Carried}
use Rattle.wp_model.specs.declared.change.Change.{Change}
use Rattle.wp_model.specs.declared.entry.Entry.{Entry}
use Rattle.wp_model.specs.declared.entry.Entry.TheVariants.{Write, Prepare}
use Rattle.wp_model.specs.declared.version.Version.{Version}
use Rattle.wp_model.specs.History.{undecided, name_at, batch_at}
use Rattle.wp_model.specs.Legal.{undone_last, change_that_leaves}

-- a base, the prepares that are undecided there, and the entries behind it, numbered from the next number on
pub record Cut : Type 0 where
  pub base : ℕ
  pub carried : List Carried
  pub entries : List Entry

-- ---- the cut of a history

-- the prepare with that number, as a base carries it
abbrev pub carried_from : List Entry → ℕ → Carried
carried_from history p = record { number = p; name = name_at history p; batch = batch_at history p }

abbrev pub carried_of : List Entry → List Carried
carried_of history = map (carried_from history) (undecided history)

abbrev pub cut_at : List Entry → ℕ → Cut
cut_at history base = record { base = base; carried = carried_of (take base history); entries = drop base history }

-- The history has this cut: its base is one of its numbers, and is not between an undo and its close.
pub record IsCut (history : List Entry) (c : Cut) : Type 0 where
  pub within : c.base ≤ length history
  pub whole : undone_last (take c.base history) ≡ None
  pub is : c ≡ cut_at history c.base

-- ---- the numbers up to the base

-- the carried prepare with that number, if there is one
abbrev pub carried_at : Cut → ℕ → Option Carried
carried_at c p = find (λ x. x.number == p) c.carried

abbrev pub is_carried : Cut → ℕ → Bool
is_carried c p = is_some (carried_at c p)

-- one of the numbers up to the base that is no carried prepare's
abbrev pub is_fixed : Cut → ℕ → Bool
is_fixed c p = nat_le 1 p && (nat_le p c.base && not (is_carried c p))

abbrev pub value_in : Option Version → Option (List ℕ)
value_in None = None
value_in (Some v) = v.value

-- what a store's versions, which are in order, have under the key at the base: the value of the newest fixed one
abbrev pub base_value : Cut → List Version → List ℕ → Option (List ℕ)
base_value c versions key = value_in (find (λ v. bytes_eq v.key key && is_fixed c v.number) versions)

-- ---- the full list

-- an entry that may stand up to a base
abbrev pub is_start : Entry → Bool
is_start (Write batch) = true
is_start (Prepare name batch) = true
is_start other = false

-- the change that makes a version
abbrev pub change_in : Version → Change
change_in v = change_that_leaves v.key v.value

-- the changes of the versions with that number
abbrev pub changes_at : List Version → ℕ → List Change
changes_at versions p = map change_in (filter (λ v. v.number == p) versions)

abbrev pub front_entry_of : List Version → ℕ → Option Carried → Entry
front_entry_of versions p None = Write (changes_at versions p)
front_entry_of versions p (Some x) = Prepare x.name x.batch

-- what stands at a number up to the base: the Prepare of a carried one, or else a Write of the versions with that number
abbrev pub front_entry : Cut → List Version → ℕ → Entry
front_entry c versions p = front_entry_of versions p (carried_at c p)

-- the list that stands for a cut and a store's versions, numbered from 1 on
unfoldable pub full_of : Cut → List Version → List Entry
full_of c versions = map (front_entry c versions) (range_with_len 1 c.base) ++ c.entries
