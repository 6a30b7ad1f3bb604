-- What the install of an edit leaves of the seat that holds the tables.
use Rattle.std.specs.Prelude.{◌≡◌, Bool, true, false, IfSome}
use Rattle.wp_model.specs.Flushed.{InstalledEdit}
use Rattle.wp_tableset.specs.Changes.{Asked}
use Rattle.wp_tableset.specs.declared.gone.Gone.{Gone}
use Rattle.wp_tableset.specs.declared.gone.Gone.TheVariants as gone
use Rattle.wp_core.specs.Effects.{with_failed}
use Rattle.wp_core.specs.States.{Installed}
use Rattle.wp_core.specs.Views.{nothing_flushed, tables_failed}
use Rattle.wp_core.specs.Views as event
use Rattle.wp_core.specs.World.{Actor, World}
use Rattle.wp_rule.specs.Knows.{Noted, KnowsInstalled}
use Rattle.wp_parts.specs.VersionSet.{VersionSetState, IsEdits, asked_for}
use Rattle.wp_parts.specs.Installs.{SurvivesInstall}
use Rattle.wp_shared.specs.Notes.{no_fact}
use Rattle.wp_shared.specs.Seats.{SharedState, SeatState, Stands}
use Rattle.wp_maint.specs.Calls.{HasFault, IsUncalled}
use Rattle.wp_maint.specs.Finding.{Changes}
use Rattle.wp_maint.specs.Holding.{is_of_flushed, HoldsEdits}

-- ---- the edit

-- where its table takes the place of all tables it is a compaction's
abbrev pub is_compaction : Gone → Bool
is_compaction gone.Frozen = false
is_compaction gone.Tables = true

-- what is asked for, with the log's segment as it is
abbrev pub next_of : Asked → InstalledEdit → InstalledEdit
next_of asked last = asked_for asked last.segment last

-- The edit that is asked for may be installed; that of a compaction keeps that no flushed version is in memory.
pub record MayInstall (a : Actor) (e : Installed) (asked : Asked) : Type 0 where
  pub knows : KnowsInstalled a e (next_of asked e.last) (is_compaction asked.gone)
  pub gone : asked.gone ≡ gone.Tables → Noted a nothing_flushed

-- ---- what its install leaves

-- the edit was installed; true for a compaction
pub record HasInstalled {D : Type 0} (z : SharedState D) (old : SeatState) (e : VersionSetState) (next : InstalledEdit) (compacts : Bool) (new : SeatState) (left : VersionSetState) : Type 0 where
  pub state : left.state ≡ record e.state { last = next }
  pub holds : HoldsEdits z new left
  pub changes : Changes z old e.state left.state (event.installed next compacts) is_of_flushed new
  pub survives : SurvivesInstall e left next
  pub edits : IsEdits e
  pub still_edits : IsEdits left
  pub stands : (w : World) × Stands z new w

-- a device failed, before the manifest was called for this edit, or in its install
pub record HasBroken {D : Type 0} (z : SharedState D) (old : SeatState) (e : VersionSetState) (next : InstalledEdit) (new : SeatState) (left : VersionSetState) : Type 0 where
  pub state : left.state ≡ with_failed e.state left.state.failed
  pub asked : IfSome left.state.failed (λ edit. edit ≡ next)
  pub holds : HoldsEdits z new left
  pub changes : Changes z old e.state left.state (tables_failed e.state.last left.state.failed) no_fact new
  pub fault : HasFault e left
  pub survives : SurvivesInstall e left next
  pub edits : IsEdits e
  pub still_edits : IsEdits left
  pub stands : (w : World) × Stands z new w

-- ---- the manifest's device

-- the tables are as they were, and the manifest's device was not called
abbrev pub AreLeft : VersionSetState → VersionSetState → Type 0
AreLeft before after = (after.state ≡ before.state) × IsUncalled before after
