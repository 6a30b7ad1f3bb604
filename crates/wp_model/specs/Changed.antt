-- Which entries change a key, and the last that did.
use Rattle.std.specs.Prelude.{◌≡◌, ℕ, suc, ◌-◌, Bool, false, List, length, Option, None}
use Rattle.std.specs.List.{filter, range_with_len, last_or}
use Rattle.std.specs.Option.{option_map_or}
use Rattle.wp_model.specs.declared.entry.Entry.{Entry}
use Rattle.wp_model.specs.History.{entry_at, changes_of, is_changed}

-- the entry with that number changes what the store has under the key
abbrev pub changes_key : List Entry → List ℕ → ℕ → Bool
changes_key history key n = option_map_or (λ entry. is_changed (changes_of history entry) key) (entry_at history n) false

-- the greatest number above n of an entry that changes the key, if there is one
abbrev pub conflict : List Entry → List ℕ → ℕ → Option ℕ
conflict history key n = last_or None (filter (changes_key history key) (range_with_len (suc n) (length history - n)))

-- no entry above n changes the key
abbrev pub IsUnchanged : List Entry → List ℕ → ℕ → Type 0
IsUnchanged history key n = conflict history key n ≡ None
