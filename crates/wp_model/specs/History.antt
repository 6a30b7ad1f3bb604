-- A history: the list of entries that a store's log spells. The n-th entry has the number n, from 1 on.
use Rattle.std.specs.Prelude.{ℕ, zero, suc, Bool, true, false, ◌&&◌, ◌==◌, not, List, [], length, take, fold, Option, Some, None, is_some, slice_get, unwrap_or}
use Rattle.std.specs.List.{filter, find, list_any, range_with_len}
use Rattle.std.specs.Str.{bytes_eq}
use Rattle.wp_model.specs.declared.change.Change.{Change}
use Rattle.wp_model.specs.declared.entry.Entry.{Entry}
use Rattle.wp_model.specs.declared.entry.Entry.TheVariants.{Write, Prepare, Commit, Close}
use Rattle.wp_model.specs.Batch.{change_to}

-- the entry with that number
abbrev pub entry_at : List Entry → ℕ → Option Entry
entry_at history zero = None
entry_at history (suc n) = slice_get history n

-- ---- prepares

abbrev pub is_prepare : Option Entry → Bool
is_prepare (Some (Prepare name batch)) = true
is_prepare other = false

abbrev pub prepared_name : Option Entry → List ℕ
prepared_name (Some (Prepare name batch)) = name
prepared_name other = []

abbrev pub prepared_batch : Option Entry → List Change
prepared_batch (Some (Prepare name batch)) = batch
prepared_batch other = []

-- the name of the Prepare with that number
abbrev pub name_at : List Entry → ℕ → List ℕ
name_at history p = prepared_name (entry_at history p)

-- the batch of the Prepare with that number
abbrev pub batch_at : List Entry → ℕ → List Change
batch_at history p = prepared_batch (entry_at history p)

-- the entry decides the Prepare with that number: it is its Commit or its Close
abbrev pub decides : ℕ → Entry → Bool
decides p (Commit q) = q == p
decides p (Close q) = q == p
decides p other = false

-- a Prepare has that number, and no Commit or Close names it
abbrev pub is_undecided : List Entry → ℕ → Bool
is_undecided history p = is_prepare (entry_at history p) && not (list_any (decides p) history)

-- the numbers of the undecided prepares, ascending
abbrev pub undecided : List Entry → List ℕ
undecided history = filter (is_undecided history) (range_with_len 1 (length history))

-- the undecided prepare of that name, if there is one
abbrev pub named : List Entry → List ℕ → Option ℕ
named history name = find (λ p. bytes_eq (name_at history p) name) (undecided history)

-- the batch changes the key
abbrev pub is_changed : List Change → List ℕ → Bool
is_changed batch key = is_some (change_to batch key)

-- the undecided prepare that changes the key and so holds it, if there is one
abbrev pub holder_of : List Entry → List ℕ → Option ℕ
holder_of history key = find (λ p. is_changed (batch_at history p) key) (undecided history)

-- ---- the store

-- the changes that an entry of the history makes to the store: a Commit makes those of its Prepare
abbrev pub changes_of : List Entry → Entry → List Change
changes_of history (Write batch) = batch
changes_of history (Commit p) = batch_at history p
changes_of history other = []

-- what the entry leaves under the key, where it found this value there, or none
abbrev pub value_after : List Entry → List ℕ → Option (List ℕ) → Entry → Option (List ℕ)
value_after history key before entry = unwrap_or (change_to (changes_of history entry) key) before

-- what the entries leave under the key, from the empty store on: a value, or none where it is missing
abbrev pub newest : List Entry → List ℕ → Option (List ℕ)
newest history key = fold (value_after history key) None history

-- what the first n entries leave under the key
abbrev pub value_at : List Entry → List ℕ → ℕ → Option (List ℕ)
value_at history key n = newest (take n history) key
