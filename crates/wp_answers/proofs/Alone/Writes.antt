-- What a client is answered that is alone and writes a change at once.
use Rattle.std.proofs.Common.{◌≡◌, inl, Bool, ℕ, true, false, List, [], ◌∷◌, ◌++◌, length, refl, sym, subst, ap, ◌∙◌, length-append, Some, None, arith}
use Rattle.std.specs.Prelude.{Ok, Err}
use Rattle.std.specs.FinMap as finite
use Rattle.wp_model.specs.declared.change.Change.{Change}
use Rattle.wp_model.specs.declared.change.Change.TheVariants as change
use Rattle.wp_model.specs.declared.entry.Entry.{Entry}
use Rattle.wp_model.specs.declared.entry.Entry.TheVariants.{Write}
use Rattle.wp_model.specs.declared.holder.Holder.{Holder}
use Rattle.wp_model.specs.declared.holder.Holder.TheVariants.{Client}
use Rattle.wp_model.specs.Batch.{key_of}
use Rattle.wp_model.specs.Flushed.{InstalledEdit}
use Rattle.wp_model.specs.Legal.{IsLegal}
use Rattle.wp_text.specs.declared.reply.Reply.TheVariants as reply
use Rattle.wp_core.specs.Views.{Event, locked, found, locks_stay}
use Rattle.wp_core.specs.World.{Participant, World}
use Rattle.wp_records.specs.Records.{IsAboutNone}
use Rattle.wp_records.specs.Writing.{FoundLog}
use Rattle.wp_rule.specs.Accounts.{account_of}
use Rattle.wp_shared.specs.Calls.{IsLoose}
use Rattle.wp_shared.specs.Seats.{SharedState, SeatState, Stands}
use Rattle.wp_open_txns.specs.declared.error.TxnError.TheVariants.{Busy, NumbersFull, LogFault, Stopped}
use Rattle.wp_txn.specs.Writes.{KeyIsFree, wrote_direct, writing_direct, WritesDirect}
use Rattle.wp_replies.specs.declared.client.LabelledSnapshot.{LabelledSnapshot}
use Rattle.wp_replies.specs.Txn.{Idle}
use Rattle.wp_replies.specs.Client as session
use Rattle.wp_replies.specs.Due.{Store, logged, reply_to}
use Rattle.wp_replies.specs.Kind.{is_logged, is_fault, is_installed, is_tables_fault}
use Rattle.wp_replies.specs.Plan.{next, holder_then, asked_of}
use Rattle.wp_client.specs.Alone.{IsOnly, IsStoreOf, AreLockedIn, AnswersAlone}
use Rattle.wp_client.specs.Replies.{asking, acknowledging}
use Rattle.wp_client.proofs.Alone.Keys.{key_is_free, key_is_held}
use Rattle.wp_client.proofs.Alone.Kept.{goes_still, locked_written}
use Rattle.wp_client.proofs.Alone.Seated.{AreQuiet, one_quiet, follows_on}
use Rattle.wp_client.proofs.Alone.Quiet.{quiet_answers}
use Rattle.wp_answers.proofs.Alone.Logged.{AsksFor, loose_locks, put_answers, stopped_answers, full_answers, fault_answers}
use Rattle.wp_client.proofs.Alone.Changing.{board_same, writes_at_once, is_busy_at_once, still_idle}

-- the reply that acknowledges a change says of an entry, and of nothing else
says : (c : Change) (n : ℕ) → (is_logged (acknowledging c n) ≡ true) × (is_fault (acknowledging c n) ≡ false) × (is_installed (acknowledging c n) ≡ false) × (is_tables_fault (acknowledging c n) ≡ false)
says (change.Put key value) n = (refl, refl, refl, refl)
says (change.Del key) n = (refl, refl, refl, refl)

module _ {D : Type 0} (z : SharedState D) (first : InstalledEdit) (old new : SeatState) (only : IsOnly old) (store : Store) (is : IsStoreOf z first old.knows.participant store) (stood : (w : World) × Stands z new w) (snapshots : List LabelledSnapshot) (c : Change) where
  abbrev idle : session.Client
  idle = record { txn = Idle; snapshots = snapshots }

  abbrev it : Participant
  it = old.knows.participant

  abbrev entries : List Entry
  entries = Write (c ∷ []) ∷ []

  abbrev lock : List Event
  lock = locked (key_of c) (Client it.client) ∷ []

  lock_quiet : AreQuiet lock
  lock_quiet = one_quiet (locked (key_of c) (Client it.client)) refl refl (λ edit. refl) (λ label n e. absurd cc)

  -- where no undecided prepare has the key, nor locked it, it comes to one entry
  asks_for : holder_then store.history store.locked (key_of c) ≡ None → (n : ℕ) → n ≡ next store.history → AsksFor store idle (asking c) 1 (acknowledging c n) entries
  asks_for free n number = let is_plan = writes_at_once snapshots store.history store.locked c free in record {
    due_is = ap (reply_to store idle) is_plan ∙ ap (λ (m : ℕ). logged store 1 (acknowledging c m)) (sym number);
    asked = ap asked_of is_plan;
    logged = (says c n).0;
    fault = (says c n).1;
    installed = (says c n).2;
    tables = (says c n).3;
    board = λ b r. board_same c b r;
  }

  -- ---- it is written

  pub written_alone : AreLockedIn z old Idle store → (n : ℕ) → WritesDirect z old c (Ok n) new → AnswersAlone z first old new idle idle (asking c) (acknowledging c n) store
  written_alone locks n w =
      let history = w.1.0 in let put = w.1.1 in
      put_answers z first old new only store is stood _ (writing_direct (key_of c) it) (wrote_direct (key_of c) it) lock refl refl refl lock_quiet history entries put idle idle (asking c) (acknowledging c n)
      (λ behind legal.
      let n_is : n ≡ next store.history =
      (let size : length new.knows.participant.seen ≡ length (history ++ entries) = ap (λ (h : List Entry). length h) put.seen in let both = length-append history entries in let same : length history ≡ length store.history = ap (λ (h : List Entry). length h) behind in
      let number = w.0 in omega (arith, size, both, same, number)) in
      asks_for (key_is_free z first old new only store is Idle locks (key_of c) w.2.0) n n_is)
      (still_idle snapshots store.history c n)
      (λ behind legal. locked_written z old new Idle Idle store.history (Write (c ∷ [])) (subst (λ (h : List Entry). IsLegal (h ++ entries)) behind legal) store.locked
      (λ name q keys. let none : IsAboutNone history entries (locks_stay name q keys) = (refl, tt) in put.goes_on.notes (locks_stay name q keys) (refl, none)) refl (λ p own. absurd own))

  -- ---- the key is held

  pub busy_alone : AreLockedIn z old Idle store → it.direct ≡ None → ((name : List ℕ) → finite.get it.transactions name ≡ None) → (by : Holder) → WritesDirect z old c (Err (Busy by)) new → AnswersAlone z first old new idle idle (asking c) (reply.Busy by) store
  busy_alone locks direct none by f =
      let event : Event = found (Some (key_of c)) by (length it.seen) (account_of it f.world.locks f.published (Some (key_of c)) by) in
      let held = key_is_held z first old new only store is Idle locks (key_of c) by f direct (λ name same. none name) in
      quiet_answers z first old new only store is stood (event ∷ []) (follows_on _ z old new _ f.goes_on (event ∷ []) refl refl) (one_quiet event refl refl (λ edit. refl) (λ label n e. absurd cc)) idle idle (asking c) (reply.Busy by)
      (record { logged = refl; fault = refl; installed = refl; tables = refl; board = λ b. board_same c b (reply.Busy by) })
      (inl (ap reply.Busy held.2 ∙ sym (ap (reply_to store idle) (is_busy_at_once snapshots store.history store.locked c held.0 held.1)))) refl (goes_still z old new _ f.goes_on refl Idle store)

  -- ---- the log refuses it

  -- the key was free as it found it, so no undecided prepare has it
  asks_refused : AreLockedIn z old Idle store → KeyIsFree z old new (key_of c) → (closed : Bool) → FoundLog z old (writing_direct (key_of c) it) new.knows.participant.seen closed → new.knows.participant.seen ≡ store.history
      → AsksFor store idle (asking c) 1 (acknowledging c (next store.history)) entries
  asks_refused locks free closed k seen = asks_for (key_is_free z first old new only store is Idle locks (key_of c) free.0) (next store.history) refl

  pub stopped_alone : AreLockedIn z old Idle store → (n : ℕ) → WritesDirect z old c (Err (Stopped n)) new → AnswersAlone z first old new idle idle (asking c) (reply.Stopped n) store
  stopped_alone locks n w =
      stopped_answers z first old new only store is stood IsLoose (writing_direct (key_of c) it) (wrote_direct (key_of c) it) lock refl refl refl lock_quiet 1 (λ es. es ≡ entries) idle (asking c) (acknowledging c (next store.history)) entries (asks_refused locks w.1) (loose_locks z old new (wrote_direct (key_of c) it) Idle store refl) n w.0 refl

  pub full_alone : AreLockedIn z old Idle store → (published limit : ℕ) → WritesDirect z old c (Err (NumbersFull published limit)) new → AnswersAlone z first old new idle idle (asking c) (reply.Full published limit) store
  full_alone locks published limit w =
      full_answers z first old new only store is stood IsLoose (writing_direct (key_of c) it) (wrote_direct (key_of c) it) lock refl refl refl lock_quiet 1 (λ es. es ≡ entries) idle (asking c) (acknowledging c (next store.history)) entries (asks_refused locks w.1) (loose_locks z old new (wrote_direct (key_of c) it) Idle store refl) published limit w.0 refl

  pub fault_alone : AreLockedIn z old Idle store → WritesDirect z old c (Err LogFault) new → AnswersAlone z first old new idle idle (asking c) reply.FaultLog store
  fault_alone locks w =
      fault_answers z first old new only store is stood IsLoose (writing_direct (key_of c) it) (wrote_direct (key_of c) it) lock refl refl refl lock_quiet 1 (λ es. es ≡ entries) idle (asking c) (acknowledging c (next store.history)) entries (asks_refused locks w.1) (loose_locks z old new (wrote_direct (key_of c) it) Idle store refl) (λ es seen same. same) w.0 refl
