-- A legal history: each entry may follow those before it.
use Rattle.std.specs.Prelude.{◌≡◌, ℕ, ◌^◌, ◌<◌, true, List, [], ◌∷◌, length, take, map, Option, Some, None, slice_get}
use Rattle.wp_model.specs.declared.change.Change.{Change}
use Rattle.wp_model.specs.declared.change.Change.TheVariants.{Put, Del}
use Rattle.wp_model.specs.declared.entry.Entry.{Entry}
use Rattle.wp_model.specs.declared.entry.Entry.TheVariants.{Write, Prepare, Commit, Undo, Close}
use Rattle.wp_model.specs.Batch.{key_of, are_ascending}
use Rattle.wp_model.specs.History.{batch_at, is_undecided, named, holder_of, newest}

-- ---- what an entry changes

-- the changes of an entry, whether they are committed or not
abbrev pub changes_in : Entry → List Change
changes_in (Write batch) = batch
changes_in (Prepare name batch) = batch
changes_in (Undo p batch) = batch
changes_in other = []

-- ---- the four points

-- a decision, and an undo, names an undecided prepare
abbrev pub NamesUndecided : List Entry → Entry → Type 0
NamesUndecided before (Commit p) = is_undecided before p ≡ true
NamesUndecided before (Undo p batch) = is_undecided before p ≡ true
NamesUndecided before (Close p) = is_undecided before p ≡ true
NamesUndecided before other = Unit {0}

-- the prepare that the last entry undoes, if it undoes one
abbrev pub undone_last : List Entry → Option ℕ
undone_last [] = None
undone_last (Undo p batch ∷ []) = Some p
undone_last (other ∷ []) = None
undone_last (first ∷ second ∷ others) = undone_last (second ∷ others)

-- the Close of a prepare follows its Undo at once, and is nowhere else
abbrev pub UndoIsClosed : List Entry → Entry → Type 0
UndoIsClosed before (Close p) = undone_last before ≡ Some p
UndoIsClosed before other = undone_last before ≡ None

-- the change that leaves under a key this value, or none
abbrev pub change_that_leaves : List ℕ → Option (List ℕ) → Change
change_that_leaves key (Some value) = Put key value
change_that_leaves key None = Del key

-- what the keys of a batch have in the store: a deletion for a missing one
abbrev pub prior : List Entry → List Change → List Change
prior history batch = map (λ change. change_that_leaves (key_of change) (newest history (key_of change))) batch

-- an Undo holds what the keys of its prepare had before it
abbrev pub RestoresPrior : List Entry → Entry → Type 0
RestoresPrior before (Undo p batch) = batch ≡ prior before (batch_at before p)
RestoresPrior before other = Unit {0}

-- no undecided prepare holds a key of the changes
abbrev pub AreFree : List Entry → List Change → Type 0
AreFree before [] = Unit {0}
AreFree before (change ∷ changes) = (holder_of before (key_of change) ≡ None) × AreFree before changes

-- what is written or prepared has no key of an undecided prepare, and none of these has the same name
abbrev pub KeysAreFree : List Entry → Entry → Type 0
KeysAreFree before (Write batch) = AreFree before batch
KeysAreFree before (Prepare name batch) = AreFree before batch × (named before name ≡ None)
KeysAreFree before other = Unit {0}

-- ---- together

-- The entry may come right after these, but for what an undo restores: that alone looks at values, all else at the prepares
-- that are undecided.
pub record IsOrderlyNext (before : List Entry) (entry : Entry) : Type 0 where
  pub ascending : are_ascending (changes_in entry) ≡ true
  pub names_undecided : NamesUndecided before entry
  pub undo_is_closed : UndoIsClosed before entry
  pub keys_are_free : KeysAreFree before entry

-- the entry may come right after these, however many changes it has
pub record IsLegalNext (before : List Entry) (entry : Entry) : Type 0 where
  pub orderly : IsOrderlyNext before entry
  pub restores_prior : RestoresPrior before entry

-- each entry may follow those before it
abbrev pub AreLegal : List Entry → Type 0
AreLegal history = (n : ℕ) (entry : Entry) → slice_get history n ≡ Some entry → IsLegalNext (take n history) entry

-- each number of an entry is below this: no version of the log has a greater one
abbrev pub log_end : ℕ
log_end = 2 ^ 56

-- A legal history: few enough entries for their numbers, and each may follow those before it.
pub record IsLegal (history : List Entry) : Type 0 where
  pub few : length history < log_end
  pub each : AreLegal history
