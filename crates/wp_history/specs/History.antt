-- A history in memory, from a base on: how its contracts see it, and how it is kept.
use Rattle.std.specs.Prelude.{◌≡◌, ℕ, ◌≤◌, List, length, Option, if◌then◌else◌, nat_lt, None}
use Rattle.std.specs.BTreeMap.{BTreeMap, IsOrdered, get}
use Rattle.std.specs.Str.{bytes_eq}
use Rattle.wp_model.specs.declared.carried.Carried.{Carried}
use Rattle.wp_model.specs.declared.entry.Entry.{Entry}
use Rattle.wp_model.specs.declared.version.Version.{Version}
use Rattle.wp_model.specs.Batch.{key_cmp}
use Rattle.wp_model.specs.History.{entry_at, undecided, value_at}
use Rattle.wp_model.specs.Legal.{IsLegal}
use Rattle.wp_cuts.specs.Cut.{Cut, full_of}
use Rattle.wp_cuts.specs.LegalCut.{IsOrderlyCut}

-- ---- as it is seen

-- the number behind which its entries are in memory, the full list, and how many more entries take no memory
pub record RoomyHistory : Type 0 where
  pub base : ℕ
  pub entries : List Entry
  pub room : ℕ

-- the entry with that number, if it is behind the base
abbrev pub entry_behind : RoomyHistory → ℕ → Option Entry
entry_behind h n = if nat_lt h.base n then entry_at h.entries n else None

-- ---- as an outline is kept

abbrev pub cut_of : ℕ → List Carried → List Entry → Cut
cut_of base carried later = record { base = base; carried = carried; entries = later }

-- The cut is orderly, and the numbers are those of the undecided prepares of the full list that it stands for with the versions.
pub record IsOutline (c : Cut) (versions : List Version) (numbers : List ℕ) : Type 0 where
  pub cut : IsOrderlyCut c
  pub numbered : numbers ≡ undecided (full_of c versions)

-- ---- as a history is kept

-- the map has just these values
pub record IsStore {V : Type 0} (values : List ℕ → Option V) (store : BTreeMap (List ℕ) V) : Type 0 where
  pub ordered : IsOrdered key_cmp store
  pub each : (key : List ℕ) → get key_cmp store key ≡ values key

-- the value is left under the key, or nothing
abbrev pub Leaves : {V : Type 0} → List ℕ → Option V → BTreeMap (List ℕ) V → BTreeMap (List ℕ) V → Type 0
Leaves {V} key value old new = (values : List ℕ → Option V) → IsStore values old → IsStore (λ other. if bytes_eq key other then value else values other) new

-- what the map has are the values that the entries up to the base leave
abbrev pub HasBaseValues : RoomyHistory → BTreeMap (List ℕ) (List ℕ) → Type 0
HasBaseValues h store = IsStore (λ key. value_at h.entries key h.base) store

-- the list is legal and reaches to the base, and the map has its values there
pub record IsKept (h : RoomyHistory) (store : BTreeMap (List ℕ) (List ℕ)) : Type 0 where
  pub legal : IsLegal h.entries
  pub within : h.base ≤ length h.entries
  pub stored : HasBaseValues h store
