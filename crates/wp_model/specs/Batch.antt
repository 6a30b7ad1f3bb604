-- A batch: the changes that one transaction makes, one for each key.
use Rattle.std.specs.Prelude.{ℕ, Bool, true, ◌&&◌, List, [], ◌∷◌, length, nat_le, Option, Some, None, if◌then◌else◌}
use Rattle.std.specs.declared.cmp.Ordering.{Ordering}
use Rattle.std.specs.declared.cmp.Ordering.TheVariants.{Less, Equal, Greater}
use Rattle.std.specs.Ordering.{nat_cmp, is_lt}
use Rattle.std.specs.Str.{bytes_eq}
use Rattle.std.specs.Cmp.Lexicographic.{slice_cmp}
use Rattle.wp_model.specs.declared.change.Change.{Change}
use Rattle.wp_model.specs.declared.change.Change.TheVariants.{Put, Del}
use Rattle.wp_model.specs.declared.batch.TheConstants.{MOST_KEYS}

-- the order of keys: byte by byte, a key before its extensions
abbrev pub key_cmp : List ℕ → List ℕ → Ordering
key_cmp = slice_cmp nat_cmp

abbrev pub key_of : Change → List ℕ
key_of (Put key value) = key
key_of (Del key) = key

-- the value that a change leaves under its key: none for a deletion
abbrev pub value_of : Change → Option (List ℕ)
value_of (Put key value) = Some value
value_of (Del key) = None

-- what the changes say of a key: nothing, or the value that they leave there
abbrev pub change_to : List Change → List ℕ → Option (Option (List ℕ))
change_to [] key = None
change_to (change ∷ changes) key = if bytes_eq (key_of change) key then Some (value_of change) else change_to changes key

-- the first list where the order is Less, the second where it is Equal, the third where it is Greater
abbrev pub by_order : Ordering → List Change → List Change → List Change → List Change
by_order Less below same above = below
by_order Equal below same above = same
by_order Greater below same above = above

-- the changes with one more, in the order of keys, in place of the one to its key where there is one
abbrev pub with_change : List Change → Change → List Change
with_change [] change = change ∷ []
with_change (first ∷ others) change = by_order (key_cmp (key_of change) (key_of first)) (change ∷ first ∷ others) (change ∷ others) (first ∷ with_change others change)

-- each key is below the next
abbrev pub are_ascending : List Change → Bool
are_ascending [] = true
are_ascending (first ∷ []) = true
are_ascending (first ∷ second ∷ others) = is_lt (key_cmp (key_of first) (key_of second)) && are_ascending (second ∷ others)

-- at most 64 changes, their keys distinct and ascending
abbrev pub is_batch : List Change → Bool
is_batch changes = nat_le (length changes) MOST_KEYS && are_ascending changes
