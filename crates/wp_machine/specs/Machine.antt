-- Which step of the machine a step of the code is, in a world.
use Rattle.std.specs.Prelude.{ℕ, ◌≡◌, ◌==◌, not, List, [], ◌∷◌, ◌++◌, length, suc, take, drop, filter, slice_get, Option, Some, None, option_map}
use Rattle.std.specs.FinMap as finite
use mathlib.Core.Option.{some}
use lib.ListN.{get_elem?}
use Rattle.wp_model.specs.declared.entry.Entry.{Entry}
use Rattle.wp_model.specs.declared.version.Version.{Version}
use Rattle.wp_model.specs.LockState.{LockState}
use Rattle.wp_model.specs.Legal.{changes_in}
use Rattle.wp_core.specs.World.{Participant, Actor, World}
use Rattle.wp_core.specs.States.{WriteState, StoreState}
use Rattle.wp_core.specs.Reading.{Registration}
use Rattle.wp_core.specs.Entries.{pending_pair}
use Rattle.wp_model.specs.Flushed.{versions_under}
use Rattle.wp_judge.specs.Words.{commit_pair}
use Rattle.wp_core.specs.Effects.{with_entry}
use Rattle.wp_core.specs.Steps.{Step}
use Rattle.wp_core.specs.Steps as step
use Rattle.wp_core.specs.Needs.{Needs}
use Rattle.wp_core.specs.Runs.{IsStep}
use Rattle.wp_core.specs.Turns.{turn_of}
use Rattle.wp_machine.specs.Parts.{account_of}
use Rattle.wp_machine.specs.declared.step.Kind.{Kind}
use Rattle.wp_machine.specs.declared.step.Kind.TheVariants as kind
use Rattle.wp_machine.specs.declared.step.ReaderStep.{ReaderStep}
use Rattle.wp_machine.specs.declared.step.ReaderStep.TheVariants as reader
use Rattle.wp_machine.specs.declared.step.WordStep.{WordStep}
use Rattle.wp_machine.specs.declared.step.WordStep.TheVariants as word
use Rattle.wp_machine.specs.declared.step.TurnStep.{TurnStep}
use Rattle.wp_machine.specs.declared.step.TurnStep.TheVariants as turns
use Rattle.wp_machine.specs.declared.step.WriteStep.{WriteStep}
use Rattle.wp_machine.specs.declared.step.WriteStep.TheVariants as write
use Rattle.wp_machine.specs.declared.step.PreparedStep.{PreparedStep}
use Rattle.wp_machine.specs.declared.step.PreparedStep.TheVariants as prepared
use Rattle.wp_machine.specs.declared.step.SnapshotsStep.{SnapshotsStep}
use Rattle.wp_machine.specs.declared.step.SnapshotsStep.TheVariants as snapshots
use Rattle.wp_machine.specs.declared.step.StoreStep.{StoreStep}
use Rattle.wp_machine.specs.declared.step.StoreStep.TheVariants as store
use Rattle.wp_machine.specs.declared.step.TablesStep.{TablesStep}
use Rattle.wp_machine.specs.declared.step.TablesStep.TheVariants as tables
use Rattle.wp_machine.specs.declared.step.LocksStep.{LocksStep}
use Rattle.wp_machine.specs.declared.step.LocksStep.TheVariants as locks
use Rattle.wp_machine.specs.declared.step.OwnStep.{OwnStep}
use Rattle.wp_machine.specs.declared.step.OwnStep.TheVariants as own
use Rattle.wp_machine.specs.declared.step.ActorsStep.{ActorsStep}
use Rattle.wp_machine.specs.declared.step.ActorsStep.TheVariants as actors

abbrev pub reader_step : Participant → ReaderStep → Option Step
reader_step p reader.LoadPublished = Some step.load_published
reader_step p (reader.Register least) = Some (step.register least)
reader_step p (reader.BeginReading bits version place) = option_map (step.begin_reading bits version) (slice_get p.registered place)
reader_step p (reader.Load which) = Some (step.load which)
reader_step p reader.EndReading = Some step.end_reading

-- once the first of them is published
abbrev pub with_next : WriteState → List Entry → WriteState
with_next t [] = t
with_next t (entry ∷ others) = with_entry t entry others

-- the first of the pending entries is published, the others stay pending
abbrev pub published_step : List Entry → Option Step
published_step [] = None
published_step (entry ∷ others) = Some (step.store_published entry others)

abbrev pub word_step : WriteState → WordStep → Option Step
word_step t word.StorePublished = published_step t.pending
word_step t (word.StoreMaxEvicted m) = Some (step.store_max_evicted m)
word_step t word.StoreWord = option_map step.store_word (pending_pair t.history t.pending)
word_step t (word.StoreDelayedFlag value) = Some (step.store_delayed_flag value)
word_step t (word.StoreOldFlag value) = Some (step.store_old_flag value)

abbrev pub turn_step : TurnStep → Option Step
turn_step (turns.Take turn) = Some (step.take_turn (turn_of turn))
turn_step (turns.Give turn) = Some (step.give_turn (turn_of turn))

abbrev pub write_step : WriteStep → Option Step
write_step (write.MakePending entries) = Some (step.make_pending entries.items)
write_step write.LogPending = Some step.log_pending
write_step write.CloseLog = Some step.close_log
write_step write.FindLogClosed = Some step.find_log_closed
write_step write.FindBase = Some step.find_base
write_step write.DropPending = Some step.drop_pending
write_step (write.WriteSegment place) = Some (step.write_segment place)
write_step write.UseSegment = Some step.use_segment
write_step write.StopLog = Some step.stop_log

abbrev pub prepared_step : PreparedStep → Option Step
prepared_step prepared.Add = Some step.add_prepared
prepared_step prepared.TakePending = Some step.take_pending_prepared
prepared_step (prepared.AddDelayedCommit p c) = Some (step.add_delayed_commit (commit_pair p c))
prepared_step (prepared.DelayPending p c) = Some (step.delay_pending (commit_pair p c))
prepared_step (prepared.TakeOut p) = Some (step.take_out p)

-- the first of the last ones is released
abbrev pub released_step : List Registration → List Registration → Option Step
released_step front [] = None
released_step front (r ∷ back) = Some (step.release front r back)

abbrev pub snapshots_step : Participant → SnapshotsStep → Option Step
snapshots_step p (snapshots.RegisterAgain s) = Some (step.register_again s)
snapshots_step p (snapshots.Release place) = released_step (take place p.registered) (drop place p.registered)
snapshots_step p (snapshots.AddOldCommit s version) = Some (step.add_old_commit s version)

-- the versions but those with this number
abbrev pub without_number : ℕ → List Version → List Version
without_number n versions = filter (λ v. not (v.number == n)) versions

-- the versions of the first of the pending entries
abbrev pub versions_of_next : ℕ → List Entry → List Version
versions_of_next n [] = []
versions_of_next n (entry ∷ others) = versions_under n (changes_in entry)

-- memory with the versions of the pending entry as its only ones under that number
abbrev pub memory_with : WriteState → StoreState → List Version
memory_with d t = versions_of_next (suc (length d.history)) d.pending ++ without_number (suc (length d.history)) t.memory

abbrev pub store_step : WriteState → StoreState → StoreStep → Option Step
store_step d t store.AddVersions = Some (step.add_versions (memory_with d t))
store_step d t store.TakeVersions = Some (step.take_versions (without_number (suc (length d.history)) t.memory))
store_step d t (store.MoveVersions memory moved) = Some (step.move_versions memory.items moved.items)
store_step d t (store.ReplaceVersions replaced floor) = Some (step.replace_versions replaced.items floor)

abbrev pub tables_step : TablesStep → Option Step
tables_step (tables.Install edit compacts) = Some (step.install edit compacts)
tables_step (tables.Renew edit) = Some (step.renew edit)
tables_step (tables.Halt edit) = Some (step.halt edit)
tables_step tables.FindEdit = Some step.find_edit

abbrev pub locks_step : LockState → Participant → LocksStep → Option Step
locks_step t p (locks.ClaimName name) = Some (step.claim_name name)
locks_step t p (locks.TakeName name n) = Some (step.take_name name n)
locks_step t p (locks.LeaveName name) = Some (step.leave_name name)
locks_step t p (locks.FreeTransaction name) = Some (step.free_transaction name)
locks_step t p (locks.LockKey name key) = option_map (λ t. step.lock_key name t key) (finite.get p.transactions name)
locks_step t p (locks.FreeKey name key) = option_map (λ t. step.free_key name t key) (finite.get p.transactions name)
locks_step t p (locks.LockDirect key) = Some (step.lock_direct key)
locks_step t p (locks.FreeDirect key) = Some (step.free_direct key)
locks_step t p (locks.FindHolder key holder account) = Some (step.find_holder key holder (account_of account))
locks_step t p (locks.Tell label) = Some (step.tell label)
locks_step t p (locks.Hear label) = option_map (step.hear label) (finite.get t.labels label)

abbrev pub own_step : Participant → OwnStep → Option Step
own_step p (own.SetBatch name batch) = option_map (λ t. step.set_batch name t batch) (finite.get p.transactions name)
own_step p (own.Note fact) = Some (step.note fact)
own_step p (own.SetClient client) = Some (step.set_client client)

abbrev pub actors_step : World → ActorsStep → Option Step
actors_step w actors.MakeNote = Some step.make_note
actors_step w actors.MakeSeat = Some step.make_seat
actors_step w (actors.Learn other) = option_map (step.learn other) (slice_get w.actors other)
actors_step w (actors.JoinSeat other) = option_map (step.join_seat other) (slice_get w.actors other)

-- the step that this kind is for an actor: none where what it names is not there
abbrev pub step_of : World → Participant → Kind → Option Step
step_of w p (kind.Reader k) = reader_step p k
step_of w p (kind.Word k) = word_step w.writes k
step_of w p (kind.Turn k) = turn_step k
step_of w p (kind.Write k) = write_step k
step_of w p (kind.Prepared k) = prepared_step k
step_of w p (kind.Snapshots k) = snapshots_step p k
step_of w p (kind.Store k) = store_step w.writes w.store k
step_of w p (kind.Tables k) = tables_step k
step_of w p (kind.Locks k) = locks_step w.locks p k
step_of w p (kind.Own k) = own_step p k
step_of w p (kind.Actors k) = actors_step w k

-- this actor may make it: it is a step of the machine, and what that needs is so
pub record MayMake (w : World) (by : ℕ) (k : Kind) : Type 0 where
  pub actor : Actor
  pub there : get_elem? w.actors by ≡ some actor
  pub step : Step
  pub is : step_of w actor.participant k ≡ Some step
  pub needs : Needs w by actor step

-- the second world is what that step makes of the first
pub record Makes (w : World) (by : ℕ) (k : Kind) (next : World) : Type 0 where
  pub actor : Actor
  pub there : get_elem? w.actors by ≡ some actor
  pub step : Step
  pub is : step_of w actor.participant k ≡ Some step
  pub goes : IsStep w by step next
