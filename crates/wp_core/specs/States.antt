-- The states that the turns guard. Those of prepared transactions, of snapshots, and of names and keys are the same that
-- the crates of these show; here are the others, and what the machine asks of all.
use Rattle.std.specs.Prelude.{ℕ, nat_le, not, Bool, List, ◌++◌, filter, Option}
use Rattle.std.specs.FinSet as set
use Rattle.std.specs.FinMap as map
use Rattle.wp_model.specs.declared.entry.Entry.{Entry}
use Rattle.wp_model.specs.declared.segment.Segment.{Segment}
use Rattle.wp_model.specs.declared.version.Version.{Version}
use Rattle.wp_model.specs.PreparedSets.{PreparedSets}
use Rattle.wp_model.specs.Snapshots.{Snapshots}
use Rattle.wp_model.specs.LockState.{LockState}
use Rattle.wp_model.specs.Flushed.{InstalledEdit}
use Rattle.wp_core.specs.Turns.{Turn, write_turn, prepared_turn, snapshots_turn, store_turn, locks_turn, tables_turn}

-- ---- the write turn

-- The history and its log. What is pending is what is left of one record, the entry that comes next first: a record is one
-- entry, or an Undo with its Close. It is logged as a whole before its first entry joins the history. Where nothing is
-- pending, logged says nothing. Once an append failed the log is closed, and its bytes may have that record or not. It is
-- stopped where it was closed for the devices of the tables alone. The log is in a segment of its device; another one that was
-- written beside it is the next one.
pub record WriteState : Type 0 where
  pub history : List Entry
  pub pending : List Entry
  pub logged : Bool
  pub log : List Entry
  pub closed : Bool
  pub stopped : Bool
  pub failed : List Entry
  pub segment : Segment
  pub next : Option Segment

-- ---- the prepared turn

-- the number leaves all three
abbrev pub without_prepared : PreparedSets → ℕ → PreparedSets
without_prepared t p = record { heap = set.remove t.heap p; delayed = set.remove t.delayed p; delayed_commits = map.remove t.delayed_commits p }

-- the numbers of the heap that are at most the bound become delayed ones
abbrev pub with_moved : PreparedSets → ℕ → PreparedSets
with_moved t m = record t { heap = set.retain t.heap (λ p. not (nat_le p m)); delayed = set.union t.delayed (set.retain t.heap (λ p. nat_le p m)) }

-- ---- the snapshots turn

-- the live numbers
abbrev pub live_numbers : Snapshots → List ℕ
live_numbers snapshots = map.keys snapshots

-- ---- the store turn

-- the versions in memory and in tables, and the floor: at each number from it on a reader finds all that it needs
pub record StoreState : Type 0 where
  pub memory : List Version
  pub tables : List Version
  pub floor : ℕ

-- the versions with numbers up to n
abbrev pub up_to : ℕ → List Version → List Version
up_to n versions = filter (λ v. nat_le v.number n) versions

-- all versions of the store, those of the pending entry too
abbrev pub all_in : StoreState → List Version
all_in store = store.memory ++ store.tables

-- ---- the tables turn

-- The last edit, and the one whose install failed, if one did: a later opening may find either. Once the devices of the
-- tables failed, they are used no more.
pub record Installed : Type 0 where
  pub last : InstalledEdit
  pub failed : Option InstalledEdit
  pub halted : Bool

-- ---- any of them

pub data Content : Type 0 where
  writes : WriteState → Content
  prepared : PreparedSets → Content
  snapshots : Snapshots → Content
  store : StoreState → Content
  locks : LockState → Content
  installed : Installed → Content

-- the turn that guards it
abbrev pub turn_of : Content → Turn
turn_of (writes t) = write_turn
turn_of (prepared t) = prepared_turn
turn_of (snapshots t) = snapshots_turn
turn_of (store t) = store_turn
turn_of (locks t) = locks_turn
turn_of (installed t) = tables_turn
