-- Where the actor is apart from the world, a step makes the same of the world.
use Rattle.std.proofs.Common.{◌≡◌, ℕ, suc, List, [], ◌∷◌, length, take, drop, Option, Some, None, option_map, unwrap_or, refl, ap, sym, ◌∙◌, subst}
use Rattle.std.specs.Prelude.{slice_get}
use Rattle.std.specs.FinMap as finite
use Rattle.wp_model.specs.declared.entry.Entry.{Entry}
use Rattle.wp_judge.specs.Words.{CommitPair, commit_pair}
use Rattle.wp_core.specs.World.{World, Participant, Actor}
use Rattle.wp_core.specs.States.{WriteState, StoreState}
use Rattle.wp_model.specs.LockState.{LockState}
use Rattle.wp_core.specs.Reading.{Registration}
use Rattle.wp_core.specs.Entries.{pending_pair}
use Rattle.std.proofs.lemmas.List.{set-set}
use Rattle.wp_core.specs.Changes.{with_actor}
use Rattle.wp_core.specs.Effects.{done}
use Rattle.wp_core.specs.Steps.{Step}
use Rattle.wp_core.specs.Steps as step
use Rattle.wp_core.specs.Turns.{turn_of}
use Rattle.wp_machine.specs.Parts.{account_of}
use Rattle.wp_machine.specs.declared.step.Kind.{Kind}
use Rattle.wp_machine.specs.declared.step.Kind.TheVariants as kind
use Rattle.wp_machine.specs.declared.step.ReaderStep.{ReaderStep}
use Rattle.wp_machine.specs.declared.step.ReaderStep.TheVariants as reader
use Rattle.wp_machine.specs.declared.step.WordStep.{WordStep}
use Rattle.wp_machine.specs.declared.step.WordStep.TheVariants as word
use Rattle.wp_machine.specs.declared.step.TurnStep.{TurnStep}
use Rattle.wp_machine.specs.declared.step.TurnStep.TheVariants as turns
use Rattle.wp_machine.specs.declared.step.WriteStep.{WriteStep}
use Rattle.wp_machine.specs.declared.step.WriteStep.TheVariants as write
use Rattle.wp_machine.specs.declared.step.PreparedStep.{PreparedStep}
use Rattle.wp_machine.specs.declared.step.PreparedStep.TheVariants as prepared
use Rattle.wp_machine.specs.declared.step.SnapshotsStep.{SnapshotsStep}
use Rattle.wp_machine.specs.declared.step.SnapshotsStep.TheVariants as snapshots
use Rattle.wp_machine.specs.declared.step.StoreStep.{StoreStep}
use Rattle.wp_machine.specs.declared.step.StoreStep.TheVariants as store
use Rattle.wp_machine.specs.declared.step.TablesStep.{TablesStep}
use Rattle.wp_machine.specs.declared.step.TablesStep.TheVariants as tables
use Rattle.wp_machine.specs.declared.step.LocksStep.{LocksStep}
use Rattle.wp_machine.specs.declared.step.LocksStep.TheVariants as locks
use Rattle.wp_machine.specs.declared.step.OwnStep.{OwnStep}
use Rattle.wp_machine.specs.declared.step.OwnStep.TheVariants as own
use Rattle.wp_machine.specs.Apart.{IsApart}
use Rattle.wp_machine.specs.Marks.{apart_step}
use Rattle.wp_machine.specs.Machine.{reader_step, published_step, word_step, turn_step, write_step, prepared_step, released_step, snapshots_step, without_number, memory_with, store_step, tables_step, locks_step, own_step, step_of}

-- it is a step of an actor that makes and joins none
abbrev pub Acts : Step → Type 0
Acts step.make_note = ⊥
Acts step.make_seat = ⊥
Acts (step.learn x0 x1) = ⊥
Acts (step.join_seat x0 x1) = ⊥
Acts other = Unit {0}

only : (x s : Step) → Some x ≡ Some s → x ≡ s
only x s e = ap (λ o. unwrap_or o x) e

mapped : {X : Type 0} (P : Step → Type 0) (f : X → Step) (o : Option X) (s : Step) → option_map f o ≡ Some s → ((x : X) → P (f x)) → P s
mapped P f None s e p = absurd cc
mapped P f (Some x) s e p = subst P (only (f x) s e) (p x)

of_reader : (p : Participant) (k : ReaderStep) (s : Step) → reader_step p k ≡ Some s → Acts s
of_reader p reader.LoadPublished s e = subst Acts (only (step.load_published) _ e) tt
of_reader p (reader.Register least) s e = subst Acts (only (step.register least) _ e) tt
of_reader p (reader.BeginReading bits v place) s e = mapped Acts (step.begin_reading bits v) (slice_get p.registered place) _ e (λ x. tt)
of_reader p (reader.Load which) s e = subst Acts (only (step.load which) _ e) tt
of_reader p reader.EndReading s e = subst Acts (only (step.end_reading) _ e) tt

of_published : (pending : List Entry) (s : Step) → published_step pending ≡ Some s → Acts s
of_published [] s e = absurd cc
of_published (entry ∷ others) s e = subst Acts (only (step.store_published entry others) _ e) tt

of_pair : (o : Option CommitPair) (s : Step) → option_map step.store_word o ≡ Some s → Acts s
of_pair None s e = absurd cc
of_pair (Some pair) s e = subst Acts (only (step.store_word pair) _ e) tt

of_words : (w : World) (k : WordStep) (s : Step) → word_step w.writes k ≡ Some s → Acts s
of_words w word.StorePublished s e = of_published w.writes.pending s e
of_words w (word.StoreMaxEvicted m) s e = subst Acts (only (step.store_max_evicted m) _ e) tt
of_words w word.StoreWord s e = of_pair (pending_pair w.writes.history w.writes.pending) s e
of_words w (word.StoreDelayedFlag value) s e = subst Acts (only (step.store_delayed_flag value) _ e) tt
of_words w (word.StoreOldFlag value) s e = subst Acts (only (step.store_old_flag value) _ e) tt

of_turns : (k : TurnStep) (s : Step) → turn_step k ≡ Some s → Acts s
of_turns (turns.Take turn) s e = subst Acts (only (step.take_turn (turn_of turn)) _ e) tt
of_turns (turns.Give turn) s e = subst Acts (only (step.give_turn (turn_of turn)) _ e) tt

of_writes : (k : WriteStep) (s : Step) → write_step k ≡ Some s → Acts s
of_writes (write.MakePending entries) s e = subst Acts (only (step.make_pending entries.items) _ e) tt
of_writes write.LogPending s e = subst Acts (only (step.log_pending) _ e) tt
of_writes write.CloseLog s e = subst Acts (only (step.close_log) _ e) tt
of_writes write.FindLogClosed s e = subst Acts (only (step.find_log_closed) _ e) tt
of_writes write.FindBase s e = subst Acts (only (step.find_base) _ e) tt
of_writes write.DropPending s e = subst Acts (only (step.drop_pending) _ e) tt
of_writes (write.WriteSegment place) s e = subst Acts (only (step.write_segment place) _ e) tt
of_writes write.UseSegment s e = subst Acts (only (step.use_segment) _ e) tt
of_writes write.StopLog s e = subst Acts (only (step.stop_log) _ e) tt

of_prepareds : (k : PreparedStep) (s : Step) → prepared_step k ≡ Some s → Acts s
of_prepareds prepared.Add s e = subst Acts (only (step.add_prepared) _ e) tt
of_prepareds prepared.TakePending s e = subst Acts (only (step.take_pending_prepared) _ e) tt
of_prepareds (prepared.AddDelayedCommit p c) s e = subst Acts (only (step.add_delayed_commit (commit_pair p c)) _ e) tt
of_prepareds (prepared.DelayPending p c) s e = subst Acts (only (step.delay_pending (commit_pair p c)) _ e) tt
of_prepareds (prepared.TakeOut p) s e = subst Acts (only (step.take_out p) _ e) tt

of_released : (front last : List Registration) (s : Step) → released_step front last ≡ Some s → Acts s
of_released front [] s e = absurd cc
of_released front (r ∷ back) s e = subst Acts (only (step.release front r back) _ e) tt

of_snapshots : (p : Participant) (k : SnapshotsStep) (s : Step) → snapshots_step p k ≡ Some s → Acts s
of_snapshots p (snapshots.RegisterAgain number) s e = subst Acts (only (step.register_again number) _ e) tt
of_snapshots p (snapshots.Release place) s e = of_released (take place p.registered) (drop place p.registered) s e
of_snapshots p (snapshots.AddOldCommit number v) s e = subst Acts (only (step.add_old_commit number v) _ e) tt

of_stores : (d : WriteState) (t : StoreState) (k : StoreStep) (s : Step) → store_step d t k ≡ Some s → Acts s
of_stores d t store.AddVersions s e = subst Acts (only (step.add_versions (memory_with d t)) _ e) tt
of_stores d t store.TakeVersions s e = subst Acts (only (step.take_versions (without_number (suc (length d.history)) t.memory)) _ e) tt
of_stores d t (store.MoveVersions memory moved) s e = subst Acts (only (step.move_versions memory.items moved.items) _ e) tt
of_stores d t (store.ReplaceVersions replaced floor) s e = subst Acts (only (step.replace_versions replaced.items floor) _ e) tt

of_tabless : (k : TablesStep) (s : Step) → tables_step k ≡ Some s → Acts s
of_tabless (tables.Install edit compacts) s e = subst Acts (only (step.install edit compacts) _ e) tt
of_tabless (tables.Renew edit) s e = subst Acts (only (step.renew edit) _ e) tt
of_tabless (tables.Halt edit) s e = subst Acts (only (step.halt edit) _ e) tt
of_tabless tables.FindEdit s e = subst Acts (only (step.find_edit) _ e) tt

of_lockss : (t : LockState) (p : Participant) (k : LocksStep) (s : Step) → locks_step t p k ≡ Some s → Acts s
of_lockss t p (locks.ClaimName name) s e = subst Acts (only (step.claim_name name) _ e) tt
of_lockss t p (locks.TakeName name number) s e = subst Acts (only (step.take_name name number) _ e) tt
of_lockss t p (locks.LeaveName name) s e = subst Acts (only (step.leave_name name) _ e) tt
of_lockss t p (locks.FreeTransaction name) s e = subst Acts (only (step.free_transaction name) _ e) tt
of_lockss t p (locks.LockDirect key) s e = subst Acts (only (step.lock_direct key) _ e) tt
of_lockss t p (locks.FreeDirect key) s e = subst Acts (only (step.free_direct key) _ e) tt
of_lockss t p (locks.FindHolder key holder account) s e = subst Acts (only (step.find_holder key holder (account_of account)) _ e) tt
of_lockss t p (locks.Tell label) s e = subst Acts (only (step.tell label) _ e) tt
of_lockss t p (locks.LockKey name key) s e = mapped Acts (λ t. step.lock_key name t key) (finite.get p.transactions name) _ e (λ x. tt)
of_lockss t p (locks.FreeKey name key) s e = mapped Acts (λ t. step.free_key name t key) (finite.get p.transactions name) _ e (λ x. tt)
of_lockss t p (locks.Hear label) s e = mapped Acts (step.hear label) (finite.get t.labels label) _ e (λ x. tt)

of_own : (p : Participant) (k : OwnStep) (s : Step) → own_step p k ≡ Some s → Acts s
of_own p (own.SetBatch name batch) s e = mapped Acts (λ t. step.set_batch name t batch) (finite.get p.transactions name) _ e (λ x. tt)
of_own p (own.Note fact) s e = subst Acts (only (step.note fact) _ e) tt
of_own p (own.SetClient client) s e = subst Acts (only (step.set_client client) _ e) tt

pub acts : (w : World) (p : Participant) (k : Kind) (s : Step) → IsApart k → step_of w p k ≡ Some s → Acts s
acts w p (kind.Reader k) s i e = of_reader p k s e
acts w p (kind.Word k) s i e = of_words w k s e
acts w p (kind.Turn k) s i e = of_turns k s e
acts w p (kind.Write k) s i e = of_writes k s e
acts w p (kind.Prepared k) s i e = of_prepareds k s e
acts w p (kind.Snapshots k) s i e = of_snapshots p k s e
acts w p (kind.Store k) s i e = of_stores w.writes w.store k s e
acts w p (kind.Tables k) s i e = of_tabless k s e
acts w p (kind.Locks k) s i e = of_lockss w.locks p k s e
acts w p (kind.Own k) s i e = of_own p k s e
acts w p (kind.Actors k) s i e = absurd i

-- it is told by the states alone
pub apart_same : (w : World) (p : Participant) (k : Kind) → IsApart k → apart_step w.writes w.store w.locks p k ≡ step_of w p k
apart_same w p (kind.Reader k) i = refl
apart_same w p (kind.Word k) i = refl
apart_same w p (kind.Turn k) i = refl
apart_same w p (kind.Write k) i = refl
apart_same w p (kind.Prepared k) i = refl
apart_same w p (kind.Snapshots k) i = refl
apart_same w p (kind.Store k) i = refl
apart_same w p (kind.Tables k) i = refl
apart_same w p (kind.Locks k) i = refl
apart_same w p (kind.Own k) i = refl
apart_same w p (kind.Actors k) i = absurd i

pub step_same : (w : World) (by : ℕ) (x : Actor) (p : Participant) (k : Kind) → IsApart k → step_of (with_actor w by x) p k ≡ step_of w p k
step_same w by x p k i = sym (apart_same (with_actor w by x) p k i) ∙ apart_same w p k i

-- the actor's own place is all that the step changes among the actors
pub again : (w : World) (by : ℕ) (x a : Actor) (s : Step) → Acts s → done (with_actor w by x) by a s ≡ done w by a s
again w by x a step.load_published i = ap (λ (zs : List Actor). record (done w by a step.load_published) { actors = zs }) (set-set w.actors by x _)
again w by x a (step.register x0) i = ap (λ (zs : List Actor). record (done w by a (step.register x0)) { actors = zs }) (set-set w.actors by x _)
again w by x a (step.begin_reading x0 x1 x2) i = ap (λ (zs : List Actor). record (done w by a (step.begin_reading x0 x1 x2)) { actors = zs }) (set-set w.actors by x _)
again w by x a (step.load x0) i = ap (λ (zs : List Actor). record (done w by a (step.load x0)) { actors = zs }) (set-set w.actors by x _)
again w by x a step.end_reading i = ap (λ (zs : List Actor). record (done w by a step.end_reading) { actors = zs }) (set-set w.actors by x _)
again w by x a (step.store_published x0 x1) i = ap (λ (zs : List Actor). record (done w by a (step.store_published x0 x1)) { actors = zs }) (set-set w.actors by x _)
again w by x a (step.store_max_evicted x0) i = ap (λ (zs : List Actor). record (done w by a (step.store_max_evicted x0)) { actors = zs }) (set-set w.actors by x _)
again w by x a (step.store_word x0) i = ap (λ (zs : List Actor). record (done w by a (step.store_word x0)) { actors = zs }) (set-set w.actors by x _)
again w by x a (step.store_delayed_flag x0) i = ap (λ (zs : List Actor). record (done w by a (step.store_delayed_flag x0)) { actors = zs }) (set-set w.actors by x _)
again w by x a (step.store_old_flag x0) i = ap (λ (zs : List Actor). record (done w by a (step.store_old_flag x0)) { actors = zs }) (set-set w.actors by x _)
again w by x a (step.take_turn x0) i = ap (λ (zs : List Actor). record (done w by a (step.take_turn x0)) { actors = zs }) (set-set w.actors by x _)
again w by x a (step.give_turn x0) i = ap (λ (zs : List Actor). record (done w by a (step.give_turn x0)) { actors = zs }) (set-set w.actors by x _)
again w by x a (step.make_pending x0) i = ap (λ (zs : List Actor). record (done w by a (step.make_pending x0)) { actors = zs }) (set-set w.actors by x _)
again w by x a step.log_pending i = ap (λ (zs : List Actor). record (done w by a step.log_pending) { actors = zs }) (set-set w.actors by x _)
again w by x a step.close_log i = ap (λ (zs : List Actor). record (done w by a step.close_log) { actors = zs }) (set-set w.actors by x _)
again w by x a step.find_log_closed i = ap (λ (zs : List Actor). record (done w by a step.find_log_closed) { actors = zs }) (set-set w.actors by x _)
again w by x a step.find_base i = ap (λ (zs : List Actor). record (done w by a step.find_base) { actors = zs }) (set-set w.actors by x _)
again w by x a step.drop_pending i = ap (λ (zs : List Actor). record (done w by a step.drop_pending) { actors = zs }) (set-set w.actors by x _)
again w by x a (step.write_segment x0) i = ap (λ (zs : List Actor). record (done w by a (step.write_segment x0)) { actors = zs }) (set-set w.actors by x _)
again w by x a step.use_segment i = ap (λ (zs : List Actor). record (done w by a step.use_segment) { actors = zs }) (set-set w.actors by x _)
again w by x a step.stop_log i = ap (λ (zs : List Actor). record (done w by a step.stop_log) { actors = zs }) (set-set w.actors by x _)
again w by x a step.add_prepared i = ap (λ (zs : List Actor). record (done w by a step.add_prepared) { actors = zs }) (set-set w.actors by x _)
again w by x a step.take_pending_prepared i = ap (λ (zs : List Actor). record (done w by a step.take_pending_prepared) { actors = zs }) (set-set w.actors by x _)
again w by x a (step.add_delayed_commit x0) i = ap (λ (zs : List Actor). record (done w by a (step.add_delayed_commit x0)) { actors = zs }) (set-set w.actors by x _)
again w by x a (step.delay_pending x0) i = ap (λ (zs : List Actor). record (done w by a (step.delay_pending x0)) { actors = zs }) (set-set w.actors by x _)
again w by x a (step.take_out x0) i = ap (λ (zs : List Actor). record (done w by a (step.take_out x0)) { actors = zs }) (set-set w.actors by x _)
again w by x a (step.register_again x0) i = ap (λ (zs : List Actor). record (done w by a (step.register_again x0)) { actors = zs }) (set-set w.actors by x _)
again w by x a (step.release x0 x1 x2) i = ap (λ (zs : List Actor). record (done w by a (step.release x0 x1 x2)) { actors = zs }) (set-set w.actors by x _)
again w by x a (step.add_old_commit x0 x1) i = ap (λ (zs : List Actor). record (done w by a (step.add_old_commit x0 x1)) { actors = zs }) (set-set w.actors by x _)
again w by x a (step.add_versions x0) i = ap (λ (zs : List Actor). record (done w by a (step.add_versions x0)) { actors = zs }) (set-set w.actors by x _)
again w by x a (step.take_versions x0) i = ap (λ (zs : List Actor). record (done w by a (step.take_versions x0)) { actors = zs }) (set-set w.actors by x _)
again w by x a (step.move_versions x0 x1) i = ap (λ (zs : List Actor). record (done w by a (step.move_versions x0 x1)) { actors = zs }) (set-set w.actors by x _)
again w by x a (step.replace_versions x0 x1) i = ap (λ (zs : List Actor). record (done w by a (step.replace_versions x0 x1)) { actors = zs }) (set-set w.actors by x _)
again w by x a (step.install x0 x1) i = ap (λ (zs : List Actor). record (done w by a (step.install x0 x1)) { actors = zs }) (set-set w.actors by x _)
again w by x a (step.renew x0) i = ap (λ (zs : List Actor). record (done w by a (step.renew x0)) { actors = zs }) (set-set w.actors by x _)
again w by x a (step.halt x0) i = ap (λ (zs : List Actor). record (done w by a (step.halt x0)) { actors = zs }) (set-set w.actors by x _)
again w by x a step.find_edit i = ap (λ (zs : List Actor). record (done w by a step.find_edit) { actors = zs }) (set-set w.actors by x _)
again w by x a (step.claim_name x0) i = ap (λ (zs : List Actor). record (done w by a (step.claim_name x0)) { actors = zs }) (set-set w.actors by x _)
again w by x a (step.take_name x0 x1) i = ap (λ (zs : List Actor). record (done w by a (step.take_name x0 x1)) { actors = zs }) (set-set w.actors by x _)
again w by x a (step.leave_name x0) i = ap (λ (zs : List Actor). record (done w by a (step.leave_name x0)) { actors = zs }) (set-set w.actors by x _)
again w by x a (step.free_transaction x0) i = ap (λ (zs : List Actor). record (done w by a (step.free_transaction x0)) { actors = zs }) (set-set w.actors by x _)
again w by x a (step.lock_key x0 x1 x2) i = ap (λ (zs : List Actor). record (done w by a (step.lock_key x0 x1 x2)) { actors = zs }) (set-set w.actors by x _)
again w by x a (step.free_key x0 x1 x2) i = ap (λ (zs : List Actor). record (done w by a (step.free_key x0 x1 x2)) { actors = zs }) (set-set w.actors by x _)
again w by x a (step.lock_direct x0) i = ap (λ (zs : List Actor). record (done w by a (step.lock_direct x0)) { actors = zs }) (set-set w.actors by x _)
again w by x a (step.free_direct x0) i = ap (λ (zs : List Actor). record (done w by a (step.free_direct x0)) { actors = zs }) (set-set w.actors by x _)
again w by x a (step.find_holder x0 x1 x2) i = ap (λ (zs : List Actor). record (done w by a (step.find_holder x0 x1 x2)) { actors = zs }) (set-set w.actors by x _)
again w by x a (step.tell x0) i = ap (λ (zs : List Actor). record (done w by a (step.tell x0)) { actors = zs }) (set-set w.actors by x _)
again w by x a (step.hear x0 x1) i = ap (λ (zs : List Actor). record (done w by a (step.hear x0 x1)) { actors = zs }) (set-set w.actors by x _)
again w by x a (step.set_batch x0 x1 x2) i = ap (λ (zs : List Actor). record (done w by a (step.set_batch x0 x1 x2)) { actors = zs }) (set-set w.actors by x _)
again w by x a (step.note x0) i = ap (λ (zs : List Actor). record (done w by a (step.note x0)) { actors = zs }) (set-set w.actors by x _)
again w by x a step.make_note i = absurd i
again w by x a step.make_seat i = absurd i
again w by x a (step.set_client x0) i = ap (λ (zs : List Actor). record (done w by a (step.set_client x0)) { actors = zs }) (set-set w.actors by x _)
again w by x a (step.learn x0 x1) i = absurd i
again w by x a (step.join_seat x0 x1) i = absurd i
