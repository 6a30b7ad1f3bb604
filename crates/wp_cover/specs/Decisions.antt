-- What decides the prepares of a history.
use Rattle.std.specs.Prelude.{◌≡◌, ℕ, suc, List, Option, Some, None, option_map}
use Rattle.std.specs.List.{position}
use Rattle.std.specs.Ordering.{nat_cmp}
use Rattle.std.specs.BTreeMap.{BTreeMap, get}
use Rattle.wp_model.specs.declared.entry.Entry.{Entry}
use Rattle.wp_model.specs.declared.entry.Entry.TheVariants.{Commit, Close}
use Rattle.wp_model.specs.History.{decides}

-- the prepare that an entry decides, if it decides one
abbrev pub decided_by : Entry → Option ℕ
decided_by (Commit p) = Some p
decided_by (Close p) = Some p
decided_by other = None

-- the number of the first entry that decides the prepare
abbrev pub decider_of : List Entry → ℕ → Option ℕ
decider_of entries p = option_map suc (position (decides p) entries)

-- the map has of each number what decides it
abbrev pub HasDeciders : List Entry → BTreeMap ℕ ℕ → Type 0
HasDeciders entries deciders = (p : ℕ) → get nat_cmp deciders p ≡ decider_of entries p
