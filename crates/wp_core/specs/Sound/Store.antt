-- What is so of the versions, in memory and in tables, and of the edits.
use Rattle.std.specs.Prelude.{◌≡◌, ℕ, suc, ◌≤◌, ◌<◌, List, ◌∷◌, length, Option, Some, None}
use Rattle.wp_model.specs.declared.entry.Entry.{Entry}
use Rattle.wp_model.specs.Decision as decision
use Rattle.wp_model.specs.declared.version.Version.{Version}
use Rattle.wp_model.specs.Versions.{version_at}
use Rattle.wp_model.specs.Covered.{IsCovered}
use Rattle.wp_model.specs.Snapshots.{Snapshots}
use Rattle.wp_core.specs.States.{StoreState, Installed, live_numbers, up_to, all_in}
use Rattle.wp_model.specs.Flushed.{InstalledEdit, IsEditCovered}
use Rattle.wp_core.specs.Entries.{next_of}

-- ---- the store

-- The versions cover the history for readers of the live numbers and from the floor on, and for those of the base at which the log was
-- opened, which is flushed.
pub record IsStored (history pending : List Entry) (base : ℕ) (snapshots : Snapshots) (t : StoreState) (e : Installed) : Type 0 where
  pub covered : IsCovered (up_to (length history) (all_in t)) history (base ∷ live_numbers snapshots) t.floor
  pub based : base ≤ e.last.flushed
  pub floor : t.floor ≤ length history
  -- what is above the history is the pending entry's, and is in memory
  pub next : (key : List ℕ) (p : ℕ) (value : Option (List ℕ)) → length history < p → version_at t.memory key p ≡ Some value → (p ≡ suc (length history)) × (decision.version_in (next_of pending) key ≡ Some value)
  pub tables : (key : List ℕ) (p : ℕ) (value : Option (List ℕ)) → version_at t.tables key p ≡ Some value → decision.entry_version history p key ≡ Some value
  pub last : IsEditCovered history e.last
  pub failed : (edit : InstalledEdit) → e.failed ≡ Some edit → IsEditCovered history edit
  pub in_memory : (key : List ℕ) (p : ℕ) (value : Option (List ℕ)) → e.last.flushed < p → decision.entry_version history p key ≡ Some value → version_at t.memory key p ≡ Some value

-- no flushed version is in memory
abbrev pub NoneFlushed : List Version → ℕ → Type 0
NoneFlushed memory flushed = (key : List ℕ) (p : ℕ) → p ≤ flushed → version_at memory key p ≡ None

-- the tables are those of the edit, and no version that it flushed is in memory
abbrev pub IsOfEdit : StoreState → InstalledEdit → Type 0
IsOfEdit t edit = NoneFlushed t.memory edit.flushed × (t.tables ≡ edit.versions)

-- so it is of the last edit while the tables turn is free
abbrev pub IsInStep : Option ℕ → StoreState → InstalledEdit → Type 0
IsInStep holder t last = holder ≡ None → IsOfEdit t last
