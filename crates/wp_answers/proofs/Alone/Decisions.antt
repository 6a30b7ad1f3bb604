-- What a client is answered that is alone and prepares its transaction, commits it, rolls it back, drops it or leaves it.
use Rattle.std.proofs.Common.{◌≡◌, inl, ℕ, ◌+◌, Bool, eq-eqb, List, [], ◌∷◌, ◌++◌, length, refl, sym, subst, ap, ◌∙◌, append-nil, length-append, arith}
use Rattle.wp_model.specs.declared.change.Change.{Change}
use Rattle.wp_model.specs.declared.entry.Entry.{Entry}
use Rattle.wp_model.specs.declared.entry.Entry.TheVariants as entry
use Rattle.wp_model.specs.Flushed.{InstalledEdit}
use Rattle.wp_model.specs.History.{entry_at, prepared_name, prepared_batch, name_at, batch_at}
use Rattle.wp_model.specs.Legal.{IsLegal, prior}
use Rattle.wp_text.specs.declared.script.Command.{Command}
use Rattle.wp_text.specs.declared.script.Command.TheVariants as command
use Rattle.wp_text.specs.declared.reply.Reply.{Reply}
use Rattle.wp_text.specs.declared.reply.Reply.TheVariants as reply
use Rattle.wp_core.specs.Lists.{IsIn}
use Rattle.wp_core.specs.Views.{locks_stay}
use Rattle.wp_core.specs.World.{Participant, World}
use Rattle.wp_core.proofs.KeepsSeen.{shorter}
use Rattle.wp_records.specs.Records.{IsAboutNone}
use Rattle.wp_records.specs.Writing.{FoundLog}
use Rattle.wp_shared.specs.Calls.{IsLoose}
use Rattle.wp_shared.specs.Seats.{SharedState, SeatState, Stands}
use Rattle.wp_open_txns.specs.declared.error.TxnError.TheVariants.{NumbersFull, LogFault, Stopped}
use Rattle.wp_open_txns.specs.Calls.{GivesUp, Abandons, without_transaction}
use Rattle.wp_read.specs.Registers.{unregistering}
use Rattle.wp_open_txns.specs.Turns.{IsApartFrom}
use Rattle.wp_open_txns.specs.Txn.{OpenState, PreparedState, keys_in, HasPrepared}
use Rattle.wp_txn.specs.Writes.{Prepares, CommitsNow, Commits, RollsBack, RefusesOpen, RefusesPrepared, AsksCommit, AsksRollback}
use Rattle.wp_replies.specs.declared.client.LabelledSnapshot.{LabelledSnapshot}
use Rattle.wp_replies.specs.Txn.{Idle, Open, Prepared}
use Rattle.wp_replies.specs.Client.{Client}
use Rattle.wp_replies.specs.Due.{Store, logged, client_after}
use Rattle.wp_replies.specs.Plan.{next}
use Rattle.wp_client.specs.Alone.{IsOnly, IsStoreOf, IsPrepare, AreLockedOf, AnswersAlone}
use Rattle.wp_client.specs.Holdings.{staged_of}
use Rattle.wp_client.proofs.Alone.Kept.{locked_unprepared, locked_left, left_before, left_prepared, locked_written, locked_rolled}
use Rattle.wp_client.proofs.Alone.Seated.{none_quiet, follows_on}
use Rattle.wp_client.proofs.Alone.Quiet.{quiet_answers}
use Rattle.wp_answers.proofs.Alone.Logged.{AsksFor, loose_locks, put_answers, stopped_answers, full_answers, fault_answers}

-- the number of the last entry, where these were put behind a history
last_number : (history store_history seen entries : List Entry) (n : ℕ) → n ≡ length seen → seen ≡ history ++ entries → history ≡ store_history → n ≡ length store_history + length entries
last_number history store_history seen entries n is ends behind =
    let size : length seen ≡ length (history ++ entries) = ap (λ (h : List Entry). length h) ends in let both = length-append history entries in
    let same : length history ≡ length store_history = ap (λ (h : List Entry). length h) behind in omega (arith, is, size, both, same)

module _ {D : Type 0} (z : SharedState D) (first : InstalledEdit) (old new : SeatState) (only : IsOnly old) (store : Store) (is : IsStoreOf z first old.knows.participant store) (stood : (w : World) × Stands z new w) (snapshots : List LabelledSnapshot) where
  abbrev it : Participant
  it = old.knows.participant

  abbrev idle : Client
  idle = record { txn = Idle; snapshots = snapshots }

  abbrev opened : OpenState → Client
  opened t = record { txn = Open (staged_of t); snapshots = snapshots }

  abbrev prepared : PreparedState → Client
  prepared t = record { txn = Prepared t.number; snapshots = snapshots }

  past_same : it.past ≡ it.past ++ []
  past_same = sym (append-nil it.past)

  -- ---- an open one

  asks_prepare : (t : OpenState) (n : ℕ) → n ≡ next store.history → AsksFor store (opened t) command.Prepare 1 (reply.Prepared n) (entry.Prepare t.name t.batch ∷ [])
  asks_prepare t n number = record { due_is = ap (λ (m : ℕ). logged store 1 (reply.Prepared m)) (sym number); asked = refl; logged = refl; fault = refl; installed = refl; tables = refl; board = λ b r. refl }

  asks_commit_now : (t : OpenState) (n : ℕ) → n ≡ next store.history → AsksFor store (opened t) command.Commit 1 (reply.Committed n) (entry.Write t.batch ∷ [])
  asks_commit_now t n number = record { due_is = ap (λ (m : ℕ). logged store 1 (reply.Committed m)) (sym number); asked = refl; logged = refl; fault = refl; installed = refl; tables = refl; board = λ b r. refl }

  pub prepared_alone : (t : OpenState) (p : PreparedState) (n : ℕ) → Prepares z old t p n new → AnswersAlone z first old new (opened t) (prepared p) command.Prepare (reply.Prepared n) store
  prepared_alone t p n k =
      let history = k.3.0 in let put = k.3.1 in let entries : List Entry = entry.Prepare t.name t.batch ∷ [] in
      put_answers z first old new only store is stood IsLoose it (unregistering t.pin it) [] past_same refl past_same none_quiet history entries put (opened t) (prepared p) command.Prepare (reply.Prepared n)
      (λ behind legal. asks_prepare t n (last_number history store.history new.knows.participant.seen entries n k.0 put.seen behind)) (ap prepared k.1)
      (λ behind legal are.
      let made = entry.Prepare t.name t.batch in let its : PreparedState = record { name = t.name; number = n; batch = t.batch; locked = t.locked } in
      let has = subst (HasPrepared new) k.1 k.2 in
      let number : n ≡ length store.history + 1 = last_number history store.history new.knows.participant.seen entries n k.0 put.seen behind in
      let seen : new.knows.participant.seen ≡ store.history ++ entries = put.seen ∙ ap (λ (h : List Entry). h ++ entries) behind in
      let opened = shorter it.seen z.opened is.opened in let same = ap (λ (h : List Entry). length h) is.history in
      subst (λ (m : ℕ). AreLockedOf z new (Prepared m) (store.history ++ entries) (store.locked ++ record { number = n; keys = t.locked } ∷ [])) (sym (ap (λ (x : PreparedState). x.number) k.1))
      (left_prepared z new store.history made (subst (λ (h : List Entry). IsLegal (h ++ entries)) behind legal) its store.locked (omega (arith, number)) (omega (arith, opened, same))
      (ap (λ (h : List Entry). entry_at h n) (sym seen) ∙ has.stands) has (IsPrepare (Open (staged_of t))) (λ m own. own)
      (left_before z old new (Open (staged_of t)) store.history store.locked (λ name q keys. let none : IsAboutNone history entries (locks_stay name q keys) = (refl, tt) in put.goes_on.notes (locks_stay name q keys) (refl, none)) are)))

  pub committed_now_alone : (t : OpenState) (n : ℕ) → CommitsNow z old t n new → AnswersAlone z first old new (opened t) idle command.Commit (reply.Committed n) store
  committed_now_alone t n k =
      let history = k.1.0 in let put = k.1.1 in let entries : List Entry = entry.Write t.batch ∷ [] in
      put_answers z first old new only store is stood (IsApartFrom t.name) it (without_transaction t.name (unregistering t.pin it)) [] past_same refl past_same none_quiet history entries put (opened t) idle command.Commit (reply.Committed n)
      (λ behind legal. asks_commit_now t n (last_number history store.history new.knows.participant.seen entries n k.0 put.seen behind)) refl
      (λ behind legal. locked_written z old new (Open (staged_of t)) Idle store.history (entry.Write t.batch) (subst (λ (h : List Entry). IsLegal (h ++ entries)) behind legal) store.locked
      (λ name q keys. let apart : IsApartFrom t.name (locks_stay name q keys) = (refl, refl) in let none : IsAboutNone history entries (locks_stay name q keys) = (refl, tt) in put.goes_on.notes (locks_stay name q keys) (apart, none))
      refl (λ p own. absurd own))

  -- a refusal leaves it
  module _ (t left : OpenState) (c : Command) (r : Reply) (e : Entry) (asks : AsksFor store (opened t) c 1 r (e ∷ [])) where
    back_open : (answer : Reply) → opened t ≡ client_after store.history (opened t) c answer → left ≡ t → AnswersAlone z first old new (opened t) (opened t) c answer store → AnswersAlone z first old new (opened t) (opened left) c answer store
    back_open answer client same k = subst (λ (x : OpenState). AnswersAlone z first old new (opened t) (opened x) c answer store) (sym same) k

    pub open_stopped_alone : (n : ℕ) → RefusesOpen z old t e left (Stopped n) new → AnswersAlone z first old new (opened t) (opened left) c (reply.Stopped n) store
    open_stopped_alone n k =
        back_open (reply.Stopped n) refl k.0
        (stopped_answers z first old new only store is stood IsLoose it it [] past_same refl past_same none_quiet 1 (λ es. es ≡ e ∷ []) (opened t) c r (e ∷ []) (λ closed found seen. asks) (loose_locks z old new it _ store refl) n k.2 refl)

    pub open_full_alone : (published limit : ℕ) → RefusesOpen z old t e left (NumbersFull published limit) new → AnswersAlone z first old new (opened t) (opened left) c (reply.Full published limit) store
    open_full_alone published limit k =
        back_open (reply.Full published limit) refl k.0
        (full_answers z first old new only store is stood IsLoose it it [] past_same refl past_same none_quiet 1 (λ es. es ≡ e ∷ []) (opened t) c r (e ∷ []) (λ closed found seen. asks) (loose_locks z old new it _ store refl) published limit k.2 refl)

    pub open_fault_alone : RefusesOpen z old t e left LogFault new → AnswersAlone z first old new (opened t) (opened left) c reply.FaultLog store
    open_fault_alone k =
        back_open reply.FaultLog refl k.0
        (fault_answers z first old new only store is stood IsLoose it it [] past_same refl past_same none_quiet 1 (λ es. es ≡ e ∷ []) (opened t) c r (e ∷ []) (λ closed found seen. asks) (loose_locks z old new it _ store refl) (λ es seen same. same) k.2 refl)

  -- which entry a prepare and a commit ask for
  pub prepare_asks : (t : OpenState) → AsksFor store (opened t) command.Prepare 1 (reply.Prepared (next store.history)) (entry.Prepare t.name t.batch ∷ [])
  prepare_asks t = asks_prepare t (next store.history) refl

  pub commit_now_asks : (t : OpenState) → AsksFor store (opened t) command.Commit 1 (reply.Committed (next store.history)) (entry.Write t.batch ∷ [])
  commit_now_asks t = asks_commit_now t (next store.history) refl

  -- ---- a prepared one

  asks_commit : (t : PreparedState) (n : ℕ) → n ≡ next store.history → AsksFor store (prepared t) command.Commit 1 (reply.Committed n) (entry.Commit t.number ∷ [])
  asks_commit t n number = record { due_is = ap (λ (m : ℕ). logged store 1 (reply.Committed m)) (sym number); asked = refl; logged = refl; fault = refl; installed = refl; tables = refl; board = λ b r. refl }

  asks_rollback : (t : PreparedState) → HasPrepared old t → (history : List Entry) → history ≡ store.history → (n : ℕ) → n ≡ next store.history + 1
      → AsksFor store (prepared t) command.Rollback 2 (reply.RolledBack n) (entry.Undo t.number (prior history t.batch) ∷ entry.Close t.number ∷ [])
  asks_rollback t has history behind n number =
      let batch : batch_at store.history t.number ≡ t.batch = ap (λ (h : List Entry). batch_at h t.number) is.history ∙ ap prepared_batch has.stands in record {
        due_is = ap (λ (m : ℕ). logged store 2 (reply.RolledBack m)) (sym number);
        asked = ap (λ (x : List Change × List Entry). entry.Undo t.number (prior x.1 x.0) ∷ entry.Close t.number ∷ []) (λ i. (batch i, sym behind i));
        logged = refl;
        fault = refl;
        installed = refl;
        tables = refl;
        board = λ b r. refl;
      }

  pub committed_alone : (t : PreparedState) (n : ℕ) → Commits z old t n new → AnswersAlone z first old new (prepared t) idle command.Commit (reply.Committed n) store
  committed_alone t n k =
      let history = k.0.1.0 in let put = k.0.1.1 in let entries : List Entry = entry.Commit t.number ∷ [] in
      put_answers z first old new only store is stood (IsApartFrom t.name) it (without_transaction t.name it) [] past_same refl past_same none_quiet history entries put (prepared t) idle command.Commit (reply.Committed n)
      (λ behind legal. asks_commit t n (last_number history store.history new.knows.participant.seen entries n k.0.0 put.seen behind)) refl
      (λ behind legal. locked_written z old new (Prepared t.number) Idle store.history (entry.Commit t.number) (subst (λ (h : List Entry). IsLegal (h ++ entries)) behind legal) store.locked
      (λ name q keys. let apart : IsApartFrom t.name (locks_stay name q keys) = (refl, refl) in let none : IsAboutNone history entries (locks_stay name q keys) = (refl, tt) in put.goes_on.notes (locks_stay name q keys) (apart, none))
      refl (λ p own. eq-eqb t.number p own))

  pub rolled_back_alone : (t : PreparedState) → HasPrepared old t → (n : ℕ) → RollsBack z old t n new → AnswersAlone z first old new (prepared t) idle command.Rollback (reply.RolledBack n) store
  rolled_back_alone t has n k =
      let history = k.1.0 in let put = k.1.1 in let entries : List Entry = entry.Undo t.number (prior history t.batch) ∷ entry.Close t.number ∷ [] in
      put_answers z first old new only store is stood (IsApartFrom t.name) it (without_transaction t.name it) [] past_same refl past_same none_quiet history entries put (prepared t) idle command.Rollback (reply.RolledBack n)
      (λ behind legal. asks_rollback t has history behind n (let all = last_number history store.history new.knows.participant.seen entries n k.0 put.seen behind in omega (arith, all))) refl
      (λ behind legal. locked_rolled z old new (Prepared t.number) Idle store.history (entry.Undo t.number (prior history t.batch)) (entry.Close t.number) (subst (λ (h : List Entry). IsLegal (h ++ entries)) behind legal) store.locked
      (λ name q keys. let apart : IsApartFrom t.name (locks_stay name q keys) = (refl, refl) in let last : IsAboutNone (history ++ entry.Undo t.number (prior history t.batch) ∷ []) (entry.Close t.number ∷ []) (locks_stay name q keys) = (refl, tt) in let none : IsAboutNone history entries (locks_stay name q keys) = (refl, last) in put.goes_on.notes (locks_stay name q keys) (apart, none))
      refl refl (λ p own. eq-eqb t.number p own))

  back_prepared : (t left : PreparedState) (c : Command) (answer : Reply) → left ≡ t → AnswersAlone z first old new (prepared t) (prepared t) c answer store → AnswersAlone z first old new (prepared t) (prepared left) c answer store
  back_prepared t left c answer same k = subst (λ (x : PreparedState). AnswersAlone z first old new (prepared t) (prepared x) c answer store) (sym same) k

  module _ (t left : PreparedState) where
    commit_refused : (closed : Bool) → FoundLog z old it new.knows.participant.seen closed → new.knows.participant.seen ≡ store.history → AsksFor store (prepared t) command.Commit 1 (reply.Committed (next store.history)) (entry.Commit t.number ∷ [])
    commit_refused closed found seen = asks_commit t (next store.history) refl

    pub commit_stopped_alone : (n : ℕ) → RefusesPrepared z old t 1 AsksCommit left (Stopped n) new → AnswersAlone z first old new (prepared t) (prepared left) command.Commit (reply.Stopped n) store
    commit_stopped_alone n k =
        back_prepared t left command.Commit (reply.Stopped n) k.0
        (stopped_answers z first old new only store is stood IsLoose it it [] past_same refl past_same none_quiet 1 (AsksCommit new.knows.participant.seen t) (prepared t) command.Commit (reply.Committed (next store.history)) (entry.Commit t.number ∷ []) commit_refused (loose_locks z old new it _ store refl) n k.2 refl)

    pub commit_full_alone : (published limit : ℕ) → RefusesPrepared z old t 1 AsksCommit left (NumbersFull published limit) new → AnswersAlone z first old new (prepared t) (prepared left) command.Commit (reply.Full published limit) store
    commit_full_alone published limit k =
        back_prepared t left command.Commit (reply.Full published limit) k.0
        (full_answers z first old new only store is stood IsLoose it it [] past_same refl past_same none_quiet 1 (AsksCommit new.knows.participant.seen t) (prepared t) command.Commit (reply.Committed (next store.history)) (entry.Commit t.number ∷ []) commit_refused (loose_locks z old new it _ store refl) published limit k.2 refl)

    pub commit_fault_alone : RefusesPrepared z old t 1 AsksCommit left LogFault new → AnswersAlone z first old new (prepared t) (prepared left) command.Commit reply.FaultLog store
    commit_fault_alone k =
        back_prepared t left command.Commit reply.FaultLog k.0
        (fault_answers z first old new only store is stood IsLoose it it [] past_same refl past_same none_quiet 1 (AsksCommit new.knows.participant.seen t) (prepared t) command.Commit (reply.Committed (next store.history)) (entry.Commit t.number ∷ []) commit_refused (loose_locks z old new it _ store refl) (λ es seen same. same) k.2 refl)

    module _ (has : HasPrepared old t) where
      abbrev undone : List Entry
      undone = entry.Undo t.number (prior store.history t.batch) ∷ entry.Close t.number ∷ []

      rollback_refused : (closed : Bool) → FoundLog z old it new.knows.participant.seen closed → new.knows.participant.seen ≡ store.history → AsksFor store (prepared t) command.Rollback 2 (reply.RolledBack (next store.history + 1)) undone
      rollback_refused closed found seen = asks_rollback t has store.history refl (next store.history + 1) refl

      pub rollback_stopped_alone : (n : ℕ) → RefusesPrepared z old t 2 AsksRollback left (Stopped n) new → AnswersAlone z first old new (prepared t) (prepared left) command.Rollback (reply.Stopped n) store
      rollback_stopped_alone n k =
          back_prepared t left command.Rollback (reply.Stopped n) k.0
          (stopped_answers z first old new only store is stood IsLoose it it [] past_same refl past_same none_quiet 2 (AsksRollback new.knows.participant.seen t) (prepared t) command.Rollback (reply.RolledBack (next store.history + 1)) undone rollback_refused (loose_locks z old new it _ store refl) n k.2 refl)

      pub rollback_full_alone : (published limit : ℕ) → RefusesPrepared z old t 2 AsksRollback left (NumbersFull published limit) new → AnswersAlone z first old new (prepared t) (prepared left) command.Rollback (reply.Full published limit) store
      rollback_full_alone published limit k =
          back_prepared t left command.Rollback (reply.Full published limit) k.0
          (full_answers z first old new only store is stood IsLoose it it [] past_same refl past_same none_quiet 2 (AsksRollback new.knows.participant.seen t) (prepared t) command.Rollback (reply.RolledBack (next store.history + 1)) undone rollback_refused (loose_locks z old new it _ store refl) published limit k.2 refl)

      pub rollback_fault_alone : RefusesPrepared z old t 2 AsksRollback left LogFault new → AnswersAlone z first old new (prepared t) (prepared left) command.Rollback reply.FaultLog store
      rollback_fault_alone k =
          back_prepared t left command.Rollback reply.FaultLog k.0
          (fault_answers z first old new only store is stood IsLoose it it [] past_same refl past_same none_quiet 2 (AsksRollback new.knows.participant.seen t) (prepared t) command.Rollback (reply.RolledBack (next store.history + 1)) undone rollback_refused (loose_locks z old new it _ store refl)
          (λ es seen same. same ∙ ap (λ (h : List Entry). entry.Undo t.number (prior h t.batch) ∷ entry.Close t.number ∷ []) seen) k.2 refl)

  -- ---- it is given up

  pub dropped_alone : (t : OpenState) → Abandons z old new t → AnswersAlone z first old new (opened t) idle command.Rollback reply.Dropped store
  dropped_alone t k =
      quiet_answers z first old new only store is stood [] (follows_on (IsApartFrom t.name) z old new (without_transaction t.name (unregistering t.pin it)) k [] refl past_same) none_quiet (opened t) idle command.Rollback reply.Dropped
      (record { logged = refl; fault = refl; installed = refl; tables = refl; board = λ b. refl }) (inl refl) refl
      (locked_unprepared z old new (λ name q keys. let apart : IsApartFrom t.name (locks_stay name q keys) = (refl, refl) in k.notes (locks_stay name q keys) apart) (Open (staged_of t)) Idle store.history store.locked tt)

  pub left_alone : (t : PreparedState) → HasPrepared old t → IsIn (locks_stay t.name t.number (keys_in t.batch t.locked)) new.knows.notes → GivesUp z old new t.name → AnswersAlone z first old new (prepared t) idle command.Leave reply.Left store
  left_alone t has noted k =
      quiet_answers z first old new only store is stood [] (follows_on (IsApartFrom t.name) z old new (without_transaction t.name it) k [] refl past_same) none_quiet (prepared t) idle command.Leave reply.Left
      (record { logged = refl; fault = refl; installed = refl; tables = refl; board = λ b. refl }) (inl refl) refl
      (locked_left z old new (λ name q keys. let apart : IsApartFrom t.name (locks_stay name q keys) = (refl, refl) in k.notes (locks_stay name q keys) apart) t Idle store.history store.locked has
      (ap (λ (h : List Entry). name_at h t.number) is.history ∙ ap prepared_name has.stands) noted)
