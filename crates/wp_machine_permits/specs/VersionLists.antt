-- Lists of versions, compared by what they have under keys and numbers.
use Rattle.std.specs.Prelude.{◌≡◌, ◌⊎◌, ℕ, suc, ◌<◌, ◌≤◌, true, List, Option, Some, None, length}
use Rattle.wp_model.specs.declared.change.Change.{Change}
use Rattle.wp_model.specs.Batch.{change_to}
use Rattle.wp_model.specs.declared.entry.Entry.{Entry}
use Rattle.wp_model.specs.declared.version.Version.{Version}
use Rattle.wp_model.specs.Decision.{version_in, entry_version}
use Rattle.wp_model.specs.Versions.{version_at}
use Rattle.wp_model.specs.Covered.{is_among}
use Rattle.wp_model.specs.Snapshots.{Snapshots, IsLive}
use Rattle.wp_core.specs.Entries.{next_of}
use Rattle.wp_model.specs.Flushed.{InstalledEdit, IsEditCovered}

-- the second has what the first has
abbrev pub HasAll : List Version → List Version → Type 0
HasAll versions others = (key : List ℕ) (p : ℕ) (value : Option (List ℕ)) → version_at versions key p ≡ Some value → version_at others key p ≡ Some value

abbrev pub AreSame : List Version → List Version → Type 0
AreSame versions others = (key : List ℕ) (p : ℕ) → version_at versions key p ≡ version_at others key p

-- none has the number
abbrev pub NoneAt : ℕ → List Version → Type 0
NoneAt n versions = (key : List ℕ) → version_at versions key n ≡ None

-- each is that of its entry
abbrev pub AreOf : List Entry → List Version → Type 0
AreOf history versions = (key : List ℕ) (p : ℕ) (value : Option (List ℕ)) → version_at versions key p ≡ Some value → entry_version history p key ≡ Some value

-- what is above the history is the pending entry's
abbrev pub AreNext : List Entry → List Entry → List Version → Type 0
AreNext history pending versions = (key : List ℕ) (p : ℕ) (value : Option (List ℕ)) → length history < p → version_at versions key p ≡ Some value → (p ≡ suc (length history)) × (version_in (next_of pending) key ≡ Some value)

-- each of the history's that is above the number is there
abbrev pub HasLater : List Entry → ℕ → List Version → Type 0
HasLater history flushed versions = (key : List ℕ) (p : ℕ) (value : Option (List ℕ)) → flushed < p → entry_version history p key ≡ Some value → version_at versions key p ≡ Some value

-- what the changes say of keys is there, with that number
abbrev pub HasChanges : List Version → ℕ → List Change → Type 0
HasChanges versions n changes = (key : List ℕ) (value : Option (List ℕ)) → change_to changes key ≡ Some value → version_at versions key n ≡ Some value

-- both have the same up to the number
abbrev pub StayUpTo : ℕ → List Version → List Version → Type 0
StayUpTo n versions others = (key : List ℕ) (p : ℕ) → p ≤ n → version_at versions key p ≡ version_at others key p

-- the number is listed, or from the floor on
abbrev pub IsListed : ℕ → List ℕ → ℕ → Type 0
IsListed floor listed n = (is_among listed n ≡ true) ⊎ (floor ≤ n)

abbrev pub AreListed : Snapshots → ℕ → List ℕ → Type 0
AreListed snapshots floor listed = (n : ℕ) → IsLive snapshots n → IsListed floor listed n

-- what the entry with that number has is there
abbrev pub HasEntry : List Entry → List Version → ℕ → Type 0
HasEntry history versions p = (key : List ℕ) (value : Option (List ℕ)) → entry_version history p key ≡ Some value → version_at versions key p ≡ Some value

-- memory has just what is pending or not flushed, and tables what is of the history
abbrev pub AreVersions : List Entry → List Entry → List Version → List Version → ℕ → Type 0
AreVersions history pending memory tables flushed = AreNext history pending memory × AreOf history tables × HasLater history flushed memory

-- the edits answer at the published number
abbrev pub AreEdits : List Entry → InstalledEdit → Option InstalledEdit → Type 0
AreEdits history last failed = IsEditCovered history last × ((edit : InstalledEdit) → failed ≡ Some edit → IsEditCovered history edit)

-- both have the same under the number
abbrev pub SameAt : ℕ → List Version → List Version → Type 0
SameAt n versions others = (key : List ℕ) → version_at versions key n ≡ version_at others key n
