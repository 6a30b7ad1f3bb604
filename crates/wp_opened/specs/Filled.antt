-- What an opened store is, behind the turns.
use Rattle.std.specs.Prelude.{◌≡◌, ℕ, List, [], ◌∷◌, length, false, None, ◌↔◌, Box}
use Rattle.std.specs.declared.alloc.Global.{Global}
use Rattle.std.specs.FinSet as set
use Rattle.std.specs.FinMap as finite
use Rattle.wp_model.specs.declared.entry.Entry.{Entry}
use Rattle.wp_model.specs.History.{undecided}
use Rattle.wp_model.specs.LockState.{LockState}
use Rattle.wp_model.specs.PreparedSets.{PreparedSets}
use Rattle.wp_model.specs.Snapshots.{Snapshots}
use Rattle.wp_history_laws.specs.Opened.{AreOpened}
use Rattle.wp_manifest.specs.Manifest.{ManifestState}
use Rattle.wp_outside.specs.Disk.{Moment}
use Rattle.wp_store.specs.Store.{StoreParts}
use Rattle.wp_tableset.specs.Set.{TableSetState}
use Rattle.wp_wal.specs.Wal.{WalState}
use Rattle.wp_refused.specs.Parts.{PartsOpened}
use Rattle.wp_open.specs.declared.opening.Parts.{Parts}
use Rattle.wp_parts.specs.Log.{LogState, log_state, open_ending}
use Rattle.wp_parts.specs.VersionSet.{VersionSetState, edits_state}
use Rattle.wp_parts.specs.Stock.{StockState}
use Rattle.wp_parts.specs.declared.turn_value.TurnValue.{TurnValue}
use Rattle.wp_parts.specs.declared.turn_value.TurnValue.TheVariants as part

-- just the history's undecided prepares are delayed, and no number is in the heap
pub record AreDelayed (history : List Entry) (t : PreparedSets) : Type 0 where
  pub heap : t.heap ≡ set.empty
  pub delayed : t.delayed ≡ set.from_list (undecided history)
  pub delayed_commits : t.delayed_commits ≡ finite.empty

-- the delayed flag is 0 just where nothing is undecided
abbrev pub IsFlagOf : List Entry → ℕ → Type 0
IsFlagOf history flag = (flag ≡ 0) ↔ (undecided history ≡ [])

-- the set of an opened manifest, and of a tables' device with these moments and faults
abbrev pub running_set : ManifestState → List Moment → ℕ → TableSetState
running_set manifest moments faults = record { manifest = manifest; moments = moments; faults = faults; halted = false }

-- the set of the parts of an opened store
abbrev pub set_in : {D : Type 0} → (D → List Moment) → (D → ℕ) → Parts D → TableSetState
set_in moments faults parts = running_set parts.manifest (moments parts.tables) (faults parts.tables)

-- the parts are those of a store that was opened
abbrev pub WereOpened : {D : Type 0} → (D → List Moment) → Parts D → Type 0
WereOpened moments parts =
    (asked : ℕ) × (log : List Moment) × (manifest : List Moment) × (tables : List Moment)
    × PartsOpened asked log manifest tables parts.wal parts.history.entries parts.manifest (moments parts.tables) parts.store

-- The values behind the turns, in the turns' order, as they were opened: nothing is pending; just the undecided prepares are
-- delayed; no snapshot is live; the store's versions serve a reader at the history's end; and just the keys of the undecided
-- prepares are locked.
pub record AreFilled {D : Type 0} (wal : WalState) (history : List Entry) (set : TableSetState) (store : StoreParts) (slots : List (TurnValue D)) : Type 0 where
  pub log : Box LogState Global
  pub prepared : Box PreparedSets Global
  pub snaps : Box Snapshots Global
  pub stock : Box StockState Global
  pub locks : Box LockState Global
  pub edits : Box VersionSetState Global
  pub are : slots ≡ part.Write log ∷ part.Prepared prepared ∷ part.Snapshots snaps ∷ part.Store stock ∷ part.Locks locks ∷ part.Tables edits ∷ []
  pub log_is : log.value ≡ log_state wal wal history [] false open_ending
  pub delayed : AreDelayed history prepared.value
  pub none_live : snaps.value ≡ finite.empty
  pub stock_is : stock.value ≡ record { parts = store; floor = length history }
  pub locked : AreOpened history locks.value
  pub edits_are : edits.value ≡ edits_state set set wal.segment.base store.tables None
