-- The steps of an actor: the loads and stores of words, the turns, and the changes of states that it holds.
use Rattle.std.specs.Prelude.{ℕ, Bool, List, Option}
use Rattle.wp_model.specs.declared.change.Change.{Change}
use Rattle.wp_model.specs.declared.entry.Entry.{Entry}
use Rattle.wp_model.specs.declared.version.Version.{Version}
use Rattle.wp_model.specs.declared.holder.Holder.{Holder}
use Rattle.wp_core.specs.Turns.{Turn}
use Rattle.wp_judge.specs.Words.{CommitPair}
use Rattle.wp_model.specs.Flushed.{InstalledEdit}
use Rattle.wp_core.specs.Reading.{Registration}
use Rattle.wp_core.specs.Views.{Account, Fact}
use Rattle.wp_core.specs.World.{Transaction, Actor}
use Rattle.wp_judge.specs.declared.observed.Load.{Load}

-- One step is one load or store of one word, one turn taken or given, or one change of a state whose turn the actor holds.
pub data Step : Type 0 where
  -- ---- loads
  -- the published number: the actor sees the history
  load_published : Step
  -- the published number is loaded and registered at once, with this smallest
  register : ℕ → Step
  -- from now on the actor reads words of so many bits, this version at this snapshot of its own
  begin_reading : ℕ → ℕ → Registration → Step
  -- the bound, a word, a flag, or a look into a state that is held; the reader's order says which
  load : Load → Step
  end_reading : Step
  -- ---- stores
  -- the published number: the first of the pending entries joins the history, and these follow it in its record
  store_published : Entry → List Entry → Step
  -- the bound, and each number of the prepared heap up to it moves to the delayed set
  store_max_evicted : ℕ → Step
  -- a word of the cache; the pair that was there is evicted
  store_word : CommitPair → Step
  store_delayed_flag : ℕ → Step
  store_old_flag : ℕ → Step
  -- ---- turns
  take_turn : Turn → Step
  give_turn : Turn → Step
  -- ---- the write turn
  -- the entries of one record, to be logged and published
  make_pending : List Entry → Step
  log_pending : Step
  -- the append failed, or the write of a segment
  close_log : Step
  find_log_closed : Step
  -- the published number and the log's base, while no segment waits
  find_base : Step
  drop_pending : Step
  -- a segment is written at this place, of the history up to the published number
  write_segment : ℕ → Step
  -- the last edit names the next segment, which comes into use; or no entry is taken any more, since the devices of the tables failed
  use_segment : Step
  stop_log : Step
  -- ---- the prepared turn
  -- the number of the pending Prepare, into the heap or out of it
  add_prepared : Step
  take_pending_prepared : Step
  add_delayed_commit : CommitPair → Step
  -- the pair of the pending entry becomes a delayed commit
  delay_pending : CommitPair → Step
  -- a decided number leaves heap, delayed set and delayed commits
  take_out : ℕ → Step
  -- ---- the snapshots turn
  -- a live number once more, with the smallest 1
  register_again : ℕ → Step
  -- the registration goes from between these of the actor
  release : List Registration → Registration → List Registration → Step
  -- under a live number, a version that overlaps it
  add_old_commit : ℕ → ℕ → Step
  -- ---- the store turn: what memory, or the tables, become
  -- the versions of the pending entry, into memory or out of it
  add_versions : List Version → Step
  take_versions : List Version → Step
  -- a flush, of memory and tables; and a compaction, of tables and floor
  move_versions : List Version → List Version → Step
  replace_versions : List Version → ℕ → Step
  -- ---- the tables turn
  -- an edit; true where a compaction made it
  install : InstalledEdit → Bool → Step
  -- an edit that names the log's next segment
  renew : InstalledEdit → Step
  -- the devices failed, in the install of this edit or before one
  halt : Option InstalledEdit → Step
  find_edit : Step
  -- ---- the locks turn
  claim_name : List ℕ → Step
  -- the undecided prepare with this name and number, which no actor has
  take_name : List ℕ → ℕ → Step
  leave_name : List ℕ → Step
  free_transaction : List ℕ → Step
  -- of a transaction as it is, one key more or one less
  lock_key : List ℕ → Transaction → List ℕ → Step
  free_key : List ℕ → Transaction → List ℕ → Step
  lock_direct : List ℕ → Step
  free_direct : List ℕ → Step
  -- of a key, or else of a live name
  find_holder : Option (List ℕ) → Holder → Account → Step
  -- a label with the length of what the actor saw, and the number under a label
  tell : List ℕ → Step
  hear : List ℕ → ℕ → Step
  -- ---- the actor alone
  set_batch : List ℕ → Transaction → List Change → Step
  -- a fact that is so, while the turn that guards it is held
  note : Fact → Step
  -- ---- notes and seats: a join has the other's number and state
  make_note : Step
  make_seat : Step
  -- a seat that has no transaction and no direct write is given to a client
  set_client : List ℕ → Step
  learn : ℕ → Actor → Step
  join_seat : ℕ → Actor → Step
