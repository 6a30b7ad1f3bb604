-- Which versions have to be there, and which may be.
use Rattle.std.specs.Prelude.{◌≡◌, ◌⊎◌, ℕ, true, List, [], ◌∷◌, length, Option, Some, None}
use Rattle.std.specs.declared.cmp.Ordering.{Ordering}
use Rattle.std.specs.Ordering.{nat_cmp, ordering_then}
use Rattle.wp_model.specs.declared.change.Change.{Change}
use Rattle.wp_model.specs.declared.entry.Entry.{Entry}
use Rattle.wp_model.specs.declared.entry.Entry.TheVariants.{Undo}
use Rattle.wp_model.specs.declared.version.Version.{Version}
use Rattle.wp_model.specs.Batch.{key_cmp, change_to}
use Rattle.wp_model.specs.History.{batch_at}
use Rattle.wp_model.specs.Legal.{undone_last}
use Rattle.wp_model.specs.Decision.{entry_version}
use Rattle.wp_model.specs.Versions.{version_at}
use Rattle.wp_history.specs.History.{RoomyHistory}
use Rattle.wp_cover.specs.Sources.{is_fixed}

-- how a version compares to a version of the key with that number
abbrev pub place_cmp : List ℕ → ℕ → Version → Ordering
place_cmp key n v = ordering_then (key_cmp v.key key) (nat_cmp n v.number)

-- the version has a fixed number, or is that of its entry
abbrev pub IsOwn : RoomyHistory → Version → Type 0
IsOwn h v = (is_fixed h v.number ≡ true) ⊎ (entry_version h.entries v.number v.key ≡ Some v.value)

abbrev pub ArePart : RoomyHistory → List Version → Type 0
ArePart h [] = Unit {0}
ArePart h (v ∷ vs) = IsOwn h v × ArePart h vs

-- ... or the one that counts in its place is
abbrev pub IsPart : RoomyHistory → List Version → Version → Type 0
IsPart h all v = IsOwn h v ⊎ (entry_version h.entries v.number v.key ≡ version_at all v.key v.number)

abbrev pub AreParts : RoomyHistory → List Version → List Version → Type 0
AreParts h all [] = Unit {0}
AreParts h all (v ∷ vs) = IsPart h all v × AreParts h all vs

-- each version that counts is that of its entry
abbrev pub AreAllPart : List Entry → List Version → Type 0
AreAllPart history all = (key : List ℕ) (p : ℕ) (value : Option (List ℕ)) → version_at all key p ≡ Some value → entry_version history p key ≡ Some value

-- what the changes say of keys is there, with that number
abbrev pub HasChanges : List Version → ℕ → List Change → Type 0
HasChanges versions n changes = (key : List ℕ) (value : Option (List ℕ)) → change_to changes key ≡ Some value → version_at versions key n ≡ Some value

-- what the batches of these prepares say is there
abbrev pub HasBatches : List Entry → List Version → List ℕ → Type 0
HasBatches history versions [] = Unit {0}
HasBatches history versions (p ∷ ps) = HasChanges versions p (batch_at history p) × HasBatches history versions ps

-- what an entry restores, if it is an undo
abbrev pub restored : Entry → Option (List Change)
restored (Undo p batch) = Some batch
restored other = None

-- each version of an undo that ends the history is there
abbrev pub HasUndone : List Entry → List Version → Type 0
HasUndone history versions = (key : List ℕ) (p : ℕ) (value : Option (List ℕ)) → undone_last history ≡ Some p → entry_version history (length history) key ≡ Some value → version_at versions key (length history) ≡ Some value
