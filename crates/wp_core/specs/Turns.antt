-- The six turns, and who holds them. A turn guards a state: who holds it reads and changes the state, and nobody else.
use Rattle.std.specs.Prelude.{◌≡◌, ℕ, Option, Some, None}
use Rattle.wp_core.specs.declared.turn.Turn as code
use Rattle.wp_core.specs.declared.turn.Turn.TheVariants as turn

-- The write turn guards the history and its log, the prepared turn the sets of prepared transactions, the snapshots turn
-- the live snapshots with the old commit map, the store turn the versions, the locks turn names and keys and labels, the
-- tables turn the manifest and the table files.
pub data Turn : Type 0 where
  write_turn : Turn
  prepared_turn : Turn
  snapshots_turn : Turn
  store_turn : Turn
  locks_turn : Turn
  tables_turn : Turn

-- what the turns of the code are in the machine
abbrev pub turn_of : code.Turn → Turn
turn_of turn.Write = write_turn
turn_of turn.Prepared = prepared_turn
turn_of turn.Snapshots = snapshots_turn
turn_of turn.Store = store_turn
turn_of turn.Locks = locks_turn
turn_of turn.Tables = tables_turn

-- of each turn the actor that holds it, if one does
pub record Holders : Type 0 where
  pub write : Option ℕ
  pub prepared : Option ℕ
  pub snapshots : Option ℕ
  pub store : Option ℕ
  pub locks : Option ℕ
  pub tables : Option ℕ

abbrev pub turn_holder : Holders → Turn → Option ℕ
turn_holder holders write_turn = holders.write
turn_holder holders prepared_turn = holders.prepared
turn_holder holders snapshots_turn = holders.snapshots
turn_holder holders store_turn = holders.store
turn_holder holders locks_turn = holders.locks
turn_holder holders tables_turn = holders.tables

-- the holders once the turn has this one, or none
abbrev pub with_holder : Holders → Turn → Option ℕ → Holders
with_holder holders write_turn holder = record holders { write = holder }
with_holder holders prepared_turn holder = record holders { prepared = holder }
with_holder holders snapshots_turn holder = record holders { snapshots = holder }
with_holder holders store_turn holder = record holders { store = holder }
with_holder holders locks_turn holder = record holders { locks = holder }
with_holder holders tables_turn holder = record holders { tables = holder }

abbrev pub all_free : Holders
all_free = record { write = None; prepared = None; snapshots = None; store = None; locks = None; tables = None }

-- the actor holds the turn
abbrev pub Holds : Holders → Turn → ℕ → Type 0
Holds holders turn by = turn_holder holders turn ≡ Some by
