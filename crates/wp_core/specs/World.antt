-- The world: the words, the turns, the states that they guard, and the actors.
use Rattle.std.specs.Prelude.{ℕ, Bool, List, [], Option, None, length}
use Rattle.std.specs.FinSet as set
use Rattle.std.specs.FinMap as map
use Rattle.wp_model.specs.declared.change.Change.{Change}
use Rattle.wp_model.specs.declared.entry.Entry.{Entry}
use Rattle.wp_model.specs.Batch.{key_cmp}
use Rattle.wp_core.specs.Turns.{Turn, write_turn, prepared_turn, snapshots_turn, store_turn, locks_turn, tables_turn, Holders}
use Rattle.wp_model.specs.PreparedSets.{PreparedSets}
use Rattle.wp_model.specs.Snapshots.{Snapshots}
use Rattle.wp_model.specs.LockState.{LockState}
use Rattle.wp_core.specs.States.{WriteState, StoreState, Installed, Content, writes, prepared, snapshots, store, locks, installed}
use Rattle.wp_model.specs.Flushed.{InstalledEdit}
use Rattle.wp_judge.specs.declared.observed.Observed.{Observed}
use Rattle.wp_core.specs.Reading.{Registration}
use Rattle.wp_core.specs.Views.{Event, Fact}

-- a transaction that an actor has: its batch, and the keys that it locked, which may be more
pub record Transaction : Type 0 where
  pub batch : List Change
  pub locked : set.FinSet key_cmp

abbrev pub Transactions : Type 0
Transactions = map.FinMap key_cmp Transaction

-- What is known of an actor to the end: what it saw, the numbers that it published, its past, what it has of snapshots,
-- transactions and keys.
pub record Participant : Type 0 where
  pub client : List ℕ
  pub seen : List Entry
  pub own : List ℕ
  pub past : List Event
  pub registered : List Registration
  pub transactions : Transactions
  pub direct : Option (List ℕ)

-- An actor: a client's seat, or a note. What it learned from a note is what the note saw, until the actor loads the
-- published number. It has each state whose turn it holds, as it left it at its last step; a version that it reads; and
-- what it noted of states that others may hold now. A note, and an actor that was joined, is not live. The first actor
-- counts those that it made, and has the participants of those that it joined.
pub record Actor : Type 0 where
  pub participant : Participant
  pub learned : List Entry
  pub held : List Content
  pub reading : Option Observed
  pub notes : List Fact
  pub live : Bool
  pub made : ℕ
  pub joined : List Participant

abbrev pub new_participant : List ℕ → List Entry → Participant
new_participant client seen = record { client = client; seen = seen; own = []; past = []; registered = []; transactions = map.empty; direct = None }

abbrev pub new_actor : Bool → List ℕ → List Entry → Actor
new_actor live client seen = record { participant = new_participant client seen; learned = []; held = []; reading = None; notes = []; live = live; made = 0; joined = [] }

-- The words are the published number, the evicted bound, two flags, and those of the commit cache. The published number is
-- the length of the history, and no field. The history and the edit of the opening stay as they were.
pub record World : Type 0 where
  pub opened : List Entry
  pub max_evicted : ℕ
  pub delayed_flag : ℕ
  pub old_flag : ℕ
  pub cache : List ℕ
  pub holders : Holders
  pub writes : WriteState
  pub prepared : PreparedSets
  pub snapshots : Snapshots
  pub store : StoreState
  pub locks : LockState
  pub installed : Installed
  pub first_edit : InstalledEdit
  pub actors : List Actor

abbrev pub history : World → List Entry
history w = w.writes.history

abbrev pub published : World → ℕ
published w = length w.writes.history

-- the state that a turn guards
abbrev pub content_of : World → Turn → Content
content_of w write_turn = writes w.writes
content_of w prepared_turn = prepared w.prepared
content_of w snapshots_turn = snapshots w.snapshots
content_of w store_turn = store w.store
content_of w locks_turn = locks w.locks
content_of w tables_turn = installed w.installed

abbrev pub with_content : World → Content → World
with_content w (writes t) = record w { writes = t }
with_content w (prepared t) = record w { prepared = t }
with_content w (snapshots t) = record w { snapshots = t }
with_content w (store t) = record w { store = t }
with_content w (locks t) = record w { locks = t }
with_content w (installed t) = record w { installed = t }
