-- The store that a history leaves, as a map, the rows of a range of its keys, the keys of versions, and the next version behind a key.
use Rattle.std.specs.Prelude.{◌≡◌, ℕ, Bool, false, ◌&&◌, List, [], ◌∷◌, take, fold, Option, None, Some, if◌then◌else◌}
use Rattle.std.specs.FinMap as finite
use Rattle.std.specs.List.{filter, find}
use Rattle.std.specs.Option.{option_map}
use Rattle.std.specs.Ordering.{is_lt, is_le}
use Rattle.wp_model.specs.declared.change.Change.{Change}
use Rattle.wp_model.specs.declared.change.Change.TheVariants.{Put, Del}
use Rattle.wp_model.specs.declared.entry.Entry.{Entry}
use Rattle.wp_model.specs.declared.row.Row.{Row}
use Rattle.wp_model.specs.declared.version.Version.{Version}
use Rattle.wp_model.specs.Batch.{key_cmp}
use Rattle.wp_model.specs.History.{changes_of}

-- ---- the store

-- each key that has a value, with it
abbrev pub Values : Type 0
Values = finite.FinMap key_cmp (List ℕ)

abbrev pub after_change : Change → Values → Values
after_change (Put key value) values = finite.insert values key value
after_change (Del key) values = finite.remove values key

-- what all of the changes make of the values: of several to one key the first counts
abbrev pub after_changes : List Change → Values → Values
after_changes [] values = values
after_changes (change ∷ changes) values = after_change change (after_changes changes values)

-- what an entry of the history makes of the values
abbrev pub stored_after : List Entry → Values → Entry → Values
stored_after history before entry = after_changes (changes_of history entry) before

-- what the entries leave, from the empty store on
abbrev pub stored : List Entry → Values
stored history = fold (stored_after history) finite.empty history

-- ---- rows

-- a key with its value
abbrev pub Pair : Type 0
Pair = List ℕ × List ℕ

-- the other key is above the key, or, where that is not asked, not below it
abbrev pub is_from : (above : Bool) → (key other : List ℕ) → Bool
is_from above key other = if above then is_lt (key_cmp key other) else is_le (key_cmp key other)

-- a row's key, with its value
abbrev pub pair_of : Row → Pair
pair_of row = (row.key, row.value)

-- the row is the first of those that were left, and the others are left; or none was, and none is
abbrev pub GivesFirst : (before after : List Pair) → Option Row → Type 0
GivesFirst before after None = (before ≡ []) × (after ≡ [])
GivesFirst before after (Some row) = before ≡ pair_of row ∷ after

-- what the first n entries leave, key by key
abbrev pub rows_at : List Entry → ℕ → List Pair
rows_at history n = finite.entries (stored (take n history))

-- those of them from a key on and up to another, which belongs to them
abbrev pub rows_from : List Entry → (above : Bool) → (key to : List ℕ) → ℕ → List Pair
rows_from history above key to n = filter (λ row. is_from above key row.0 && is_from false row.0 to) (rows_at history n)

-- those from one key to another, which both belong to them
abbrev pub rows : List Entry → (from to : List ℕ) → ℕ → List Pair
rows history from to n = rows_from history false from to n

-- ---- the next version

-- the first of the versions whose key is above the key, or, where that is not asked, not below it: of the versions in order the
-- newest one of the next key
abbrev pub next_version : (above : Bool) → List ℕ → List Version → Option Version
next_version above key versions = find (λ v. is_from above key v.key) versions

-- the first key of the versions that is above the key, or, where that is not asked, not below it
abbrev pub next_key : (above : Bool) → List ℕ → List Version → Option (List ℕ)
next_key above key versions = option_map (λ v. v.key) (next_version above key versions)
