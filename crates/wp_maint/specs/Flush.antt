-- What a flush writes, and what it leaves before the tables turn is given.
use Rattle.std.specs.Prelude.{◌≡◌, ℕ, ◌<◌, ◌≤◌, true, List, ◌++◌, length, map, Option, Some, None}
use Rattle.std.specs.Arc.{arc_value}
use Rattle.std.specs.List.{list_all}
use Rattle.std.specs.Vec.{vec_capacity}
use Rattle.wp_model.specs.declared.version.Version.{Version}
use Rattle.wp_model.specs.Flushed.{IsEditCovered}
use Rattle.wp_merge.specs.Merge.{joined, sorted_of}
use Rattle.wp_replies.specs.Tables.{unflushed, after_flush, after_renewal}
use Rattle.wp_table.specs.Table.{is_numbered, is_flushed}
use Rattle.wp_tableset.specs.Changes.{one_part}
use Rattle.wp_tableset.specs.declared.gone.Gone.TheVariants as gone
use Rattle.wp_core.specs.States.{StoreState, Installed}
use Rattle.wp_core.specs.Views.{tables_stay, frozen_stay}
use Rattle.wp_core.specs.World.{Actor}
use Rattle.wp_rule.specs.Knows.{Noted}
use Rattle.wp_parts.specs.VersionSet.{VersionSetState}
use Rattle.wp_parts.specs.Installs.{IsReadyFor}
use Rattle.wp_maint.specs.declared.frozen.Frozen.{Frozen}
use Rattle.wp_maint.specs.declared.frozen.ReadyFlush.{ReadyFlush}
use Rattle.wp_maint.specs.Calls.{NoneInMemory}

-- what was frozen, as one list
abbrev pub versions_of : Frozen → List Version
versions_of f = sorted_of (joined f.parts)

-- all that is in memory, none of it too, and the tables
pub record HasCopied (t : StoreState) (at : ℕ) (f : Frozen) : Type 0 where
  pub at_is : f.at ≡ at
  pub versions : versions_of f ≡ t.memory
  pub tables : sorted_of (joined (map arc_value f.tables.items)) ≡ t.tables
  pub room : length f.tables.items < vec_capacity f.tables

-- All that the seen history has above the flushed number is frozen, none of it too. An edit may be installed with it, as a flush's or with
-- any place of the log, and there is room for one table more beside those of the last edit.
pub record HasFrozen (a : Actor) (e : Installed) (f : Frozen) : Type 0 where
  pub at : f.at ≡ length a.participant.seen
  pub versions : versions_of f ≡ sorted_of (unflushed a.participant.seen e.last)
  pub count : length (versions_of f) ≡ length (unflushed a.participant.seen e.last)
  pub numbered : list_all is_numbered (versions_of f) ≡ true
  pub flushed : list_all (is_flushed f.at) (versions_of f) ≡ true
  pub later : (e.last.flushed ≤ f.at) × (1 ≤ length (versions_of f) → e.last.flushed < f.at)
  pub tables : sorted_of (joined (map arc_value f.tables.items)) ≡ e.last.versions
  pub room : length f.tables.items < vec_capacity f.tables
  pub covered : IsEditCovered a.participant.seen (after_flush a.participant.seen e.last)
  pub covered_at : (place : ℕ) → IsEditCovered a.participant.seen (after_renewal a.participant.seen place e.last)
  pub noted : Noted a (frozen_stay f.at (versions_of f))

-- what is frozen, some of it, or that nothing is there to freeze
abbrev pub Freezes : Actor → Installed → Option Frozen → Type 0
Freezes a e (Some f) = HasFrozen a e f × (1 ≤ length (versions_of f))
Freezes a e None = NoneInMemory a.participant.seen e.last

-- all the memory is there for an edit with what is frozen, and for its table
pub record HasReady (a : Actor) (e : VersionSetState) (r : ReadyFlush) : Type 0 where
  pub frozen : HasFrozen a e.state r.frozen
  pub asked : r.edit.edit.asked ≡ record { gone = gone.Frozen; versions = versions_of r.frozen; flushed = r.frozen.at }
  pub ready : IsReadyFor e r.edit
  pub count : r.versions ≡ length (versions_of r.frozen)

-- ---- the table

-- the table of what is frozen, if something is, may take its place
pub record MayPut (a : Actor) (e : Installed) (f : Frozen) (table : Option (List Version)) : Type 0 where
  pub flushed : e.last.flushed ≡ f.at
  pub table_is : table ≡ one_part (versions_of f)
  pub low : list_all (is_flushed f.at) (versions_of f) ≡ true
  pub frozen : Noted a (frozen_stay f.at (versions_of f))
  pub before : List Version
  pub floor : ℕ
  pub named : Noted a (tables_stay before floor)
  pub tables : sorted_of (joined (map arc_value f.tables.items)) ≡ before
  pub room : length f.tables.items < vec_capacity f.tables
  pub last : e.last.versions ≡ sorted_of (versions_of f ++ before)
