-- What lies behind the turns, and what it was when the table of the words was made.
use Rattle.std.specs.Prelude.{◌≡◌, List, Option, Some, None}
use mathlib.Core.Option.{some}
use mathlib.Core.Option as maybe
use lib.ListN.{get_elem?}
use Rattle.wp_outside.specs.Disk.{images}
use Rattle.wp_tableset.specs.Set.{TableSetState}
use Rattle.wp_wal.specs.Wal.{WalState}
use Rattle.wp_core.specs.Conditions.{NoneNext}
use Rattle.wp_core.specs.Images.{LogTells, ManifestTells, TablesTell}
use Rattle.wp_core.specs.States.{Content, writes, prepared, snapshots, store, locks, installed, turn_of}
use Rattle.wp_core.specs.Turns.{Turn}
use Rattle.wp_parts.specs.Log.{LogState, spells}
use Rattle.wp_parts.specs.Stock.{store_state}
use Rattle.wp_parts.specs.VersionSet.{VersionSetState, IsNamed, HasTablesOf}
use Rattle.wp_parts.specs.declared.turn_value.TurnValue.{TurnValue}
use Rattle.wp_parts.specs.declared.turn_value.TurnValue.TheVariants as part

-- the state of the machine that it is; none where it only stands in for one
abbrev pub content : {D : Type 0} → TurnValue D → Option Content
content part.Away = None
content (part.Write log) = Some (writes log.value.state)
content (part.Prepared tables) = Some (prepared tables.value)
content (part.Snapshots snaps) = Some (snapshots snaps.value)
content (part.Store stock) = Some (store (store_state stock.value))
content (part.Locks tables) = Some (locks tables.value)
content (part.Tables edits) = Some (installed edits.value.state)

-- its state is one of this turn
abbrev pub IsGuardedBy : {D : Type 0} → Turn → TurnValue D → Type 0
IsGuardedBy turn x = (c : Content) × (content x ≡ Some c) × (turn_of c ≡ turn)

-- what a crash leaves of its devices is as its state says; of a log that is not closed no segment waits beside the one in use
abbrev pub LogStands : LogState → Type 0
LogStands log = LogTells (images log.wal.moments) (spells log) log.state × NoneNext log.state

abbrev pub EditsStand : VersionSetState → Type 0
EditsStand edits = ManifestTells (images edits.set.manifest.log.moments) (IsNamed edits) edits.state × TablesTell (images edits.set.moments) (HasTablesOf edits) edits.state

abbrev pub Tells : {D : Type 0} → TurnValue D → Type 0
Tells (part.Write log) = LogStands log.value
Tells (part.Tables edits) = EditsStand edits.value
Tells other = Unit {0}

-- ---- as it was opened

abbrev pub opened_log : {D : Type 0} → maybe.Option (TurnValue D) → Option WalState
opened_log (some (part.Write log)) = Some log.value.first
opened_log other = None

abbrev pub opened_set : {D : Type 0} → maybe.Option (TurnValue D) → Option TableSetState
opened_set (some (part.Tables edits)) = Some edits.value.first
opened_set other = None

-- of the values behind the turns, in the turns' order: the log as it was opened, and the set of tables
abbrev pub log_first : {D : Type 0} → List (TurnValue D) → Option WalState
log_first slots = opened_log (get_elem? slots 0)

abbrev pub set_first : {D : Type 0} → List (TurnValue D) → Option TableSetState
set_first slots = opened_set (get_elem? slots 5)

-- its devices were opened as these were
abbrev pub IsAnchored : {D : Type 0} → List (TurnValue D) → TurnValue D → Type 0
IsAnchored first (part.Write log) = log_first first ≡ Some log.value.first
IsAnchored first (part.Tables edits) = set_first first ≡ Some edits.value.first
IsAnchored first other = Unit {0}

abbrev pub tells : {D : Type 0} → List (TurnValue D) → TurnValue D → Type 0
tells first x = Tells x × IsAnchored first x
