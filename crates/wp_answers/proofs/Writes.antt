-- What a client is answered that writes a change at once.
use Rattle.std.proofs.Common.{◌≡◌, ⊎_elim, ℕ, List, [], ◌∷◌, length, Some, None, refl, sym, subst, ap, arith}
use Rattle.std.specs.Prelude.{Ok, Err}
use Rattle.wp_model.specs.declared.change.Change.{Change}
use Rattle.wp_model.specs.declared.change.Change.TheVariants as change
use Rattle.wp_model.specs.declared.entry.Entry.{Entry}
use Rattle.wp_model.specs.declared.entry.Entry.TheVariants.{Write}
use Rattle.wp_model.specs.declared.holder.Holder.{Holder}
use Rattle.wp_model.specs.declared.holder.Holder.TheVariants as holder
use Rattle.wp_model.specs.Batch.{key_of}
use Rattle.wp_text.specs.declared.script.Command.TheVariants as command
use Rattle.wp_text.specs.declared.reply.Reply.{Reply}
use Rattle.wp_text.specs.declared.reply.Reply.TheVariants as reply
use Rattle.wp_core.specs.Lists.{IsIn}
use Rattle.wp_core.specs.Views.{Account, Event, locked, found}
use Rattle.wp_core.specs.World.{Participant}
use Rattle.wp_core.proofs.PastsGrow.{in_front, in_last}
use Rattle.wp_model.proofs.Tests.{same_some}
use Rattle.wp_rule.specs.Accounts.{account_of}
use Rattle.wp_shared.specs.Calls.{IsLoose, Continues, with_events}
use Rattle.wp_shared.specs.Seats.{SharedState, SeatState}
use Rattle.wp_open_txns.specs.declared.error.TxnError.{TxnError}
use Rattle.wp_open_txns.specs.declared.error.TxnError.TheVariants.{Memory, Busy, NumbersFull, LogFault, Stopped}
use Rattle.wp_open_txns.specs.Calls.{Keeps, Finds}
use Rattle.wp_txn.specs.Writes.{Refuses, wrote_direct, writing_direct, KeyIsFree, WritesDirect}
use Rattle.wp_replies.specs.declared.client.LabelledSnapshot.{LabelledSnapshot}
use Rattle.wp_replies.specs.Txn.{Idle}
use Rattle.wp_replies.specs.Client.{Client}
use Rattle.wp_replies.specs.After.{after_reply}
use Rattle.wp_replies.specs.Kind.{last_after}
use Rattle.wp_replies.specs.Progress.{Progress}
use Rattle.wp_replies.specs.Replies.{Evidence, IsLoggedAt, IsBusy, Allows}
use Rattle.wp_answers.proofs.Alone.Writes.{written_alone, busy_alone, stopped_alone, full_alone, fault_alone}
use Rattle.wp_client.specs.declared.holdings.HeldTxn.TheVariants as held
use Rattle.wp_client.specs.Answers.{IsExplained, Answers, BreaksOff, IsDue, IsAnswered}
use Rattle.wp_client.specs.Holdings.{HoldingsState, HoldsTxn, Holds, HoldsFrom}
use Rattle.wp_client.specs.Replies.{asking, acknowledging, refusal}
use Rattle.wp_answers.proofs.Putting.{one_answers}
use Rattle.wp_client.proofs.Fitting.{Fits, else_answers}
use Rattle.wp_client.proofs.Clients.{having}
use Rattle.wp_client.proofs.Growing.{of_one}
use Rattle.wp_client.proofs.Holders.{found_busy}
use Rattle.wp_client.proofs.Labels.{itself}
use Rattle.wp_client.proofs.Noting.{ComesNone}
use Rattle.wp_answers.proofs.Refused.{IsOfLog, IsLogged, ComesBefore, refused_answers, refused_holds}
use Rattle.wp_client.proofs.Staged.{labels_same, last_same}
use Rattle.wp_client.proofs.Staying.{past_more, holds_still, keeps_holds, has_now, holds_now, broke_off, broke_off_after}

-- ---- the row

-- the row of the entry's number
logged_condition : (c : Change) (snapshots : List LabelledSnapshot) (e : Evidence) (before : Progress) (n : ℕ) → IsLoggedAt e.history before.last n (Write (c ∷ [])) → Allows e before (having Idle snapshots) 0 (asking c) (acknowledging c n)
logged_condition (change.Put key value) snapshots e before n logged = (refl, logged)
logged_condition (change.Del key) snapshots e before n logged = (refl, logged)

-- the row of the key's holder
busy_condition : (c : Change) (snapshots : List LabelledSnapshot) (e : Evidence) (before : Progress) (by : Holder) → IsBusy e before.last (key_of c) by → Allows e before (having Idle snapshots) 0 (asking c) (reply.Busy by)
busy_condition (change.Put key value) snapshots e before by k = (tt, k)
busy_condition (change.Del key) snapshots e before by k = (tt, k)

-- that the key was locked is explained, whatever is answered but that it is busy
locked_made : (c : Change) (n : ℕ) (client : List ℕ) → IsExplained client Idle (asking c) (Some (acknowledging c n)) (locked (key_of c) (holder.Client client))
locked_made (change.Put key value) n client = rw (itself client, itself key) refl
locked_made (change.Del key) n client = rw (itself client, itself key) refl

locked_refused : (c : Change) (r : Reply) (client : List ℕ) → IsOfLog r → IsExplained client Idle (asking c) (Some r) (locked (key_of c) (holder.Client client))
locked_refused (change.Put key value) (reply.Full published most) client k = rw (itself client, itself key) refl
locked_refused (change.Put key value) reply.FaultLog client k = rw (itself client, itself key) refl
locked_refused (change.Put key value) (reply.Stopped n) client k = rw (itself client, itself key) refl
locked_refused (change.Put key value) other client k = absurd k
locked_refused (change.Del key) (reply.Full published most) client k = rw (itself client, itself key) refl
locked_refused (change.Del key) reply.FaultLog client k = rw (itself client, itself key) refl
locked_refused (change.Del key) (reply.Stopped n) client k = rw (itself client, itself key) refl
locked_refused (change.Del key) other client k = absurd k

locked_alone : (c : Change) (client : List ℕ) → IsExplained client Idle (asking c) None (locked (key_of c) (holder.Client client))
locked_alone (change.Put key value) client = rw (itself client, itself key) refl
locked_alone (change.Del key) client = rw (itself client, itself key) refl

-- the reply that has the number
fits_made : (c : Change) (n : ℕ) (client : List ℕ) → Fits (asking c) (acknowledging c n) (n ∷ []) (locked (key_of c) (holder.Client client) ∷ []) client Idle
fits_made (change.Put key value) n client = record { acknowledges = refl; tables = λ before. refl; labels = λ before. refl; log_failed = refl; log_stopped = refl; tables_failed = refl; once = omega arith; remembered = tt; explained = of_one (IsExplained client Idle (command.Put key value) (Some (reply.Put n))) (locked key (holder.Client client)) (locked_made (change.Put key value) n client) }
fits_made (change.Del key) n client = record { acknowledges = refl; tables = λ before. refl; labels = λ before. refl; log_failed = refl; log_stopped = refl; tables_failed = refl; once = omega arith; remembered = tt; explained = of_one (IsExplained client Idle (command.Del key) (Some (reply.Del n))) (locked key (holder.Client client)) (locked_made (change.Del key) n client) }

last_made : (c : Change) (n before : ℕ) → last_after before (asking c) (acknowledging c n) ≡ n
last_made (change.Put key value) n before = refl
last_made (change.Del key) n before = refl

client_made : (c : Change) (n : ℕ) (snapshots : List LabelledSnapshot) → having Idle snapshots ≡ after_reply 0 (having Idle snapshots) (asking c) (acknowledging c n)
client_made (change.Put key value) n snapshots = refl
client_made (change.Del key) n snapshots = refl

-- no key comes with a reply of the log
none_comes : (c : Change) (r : Reply) → IsOfLog r → ComesNone (asking c) r
none_comes (change.Put key value) (reply.Full published most) k = λ before. refl
none_comes (change.Put key value) reply.FaultLog k = λ before. refl
none_comes (change.Put key value) (reply.Stopped n) k = λ before. refl
none_comes (change.Put key value) other k = absurd k
none_comes (change.Del key) (reply.Full published most) k = λ before. refl
none_comes (change.Del key) reply.FaultLog k = λ before. refl
none_comes (change.Del key) (reply.Stopped n) k = λ before. refl
none_comes (change.Del key) other k = absurd k

-- what it asks the log for
writes_logged : {had seen : List Entry} (c : Change) (snapshots : List LabelledSnapshot) → IsLogged had seen (having Idle snapshots) (asking c) 1 (λ (entries : List Entry). entries ≡ Write (c ∷ []) ∷ [])
writes_logged (change.Put key value) snapshots = record { free = refl; some = omega arith; needs_is = refl; asks = λ entries k history last starts low. k; fresh = λ r. refl; comes = none_comes (change.Put key value); labels = λ before r. refl }
writes_logged (change.Del key) snapshots = record { free = refl; some = omega arith; needs_is = refl; asks = λ entries k history last starts low. k; fresh = λ r. refl; comes = none_comes (change.Del key); labels = λ before r. refl }

-- ---- a write

module _ {D : Type 0} (z : SharedState D) (old new : SeatState) (c : Change) (snapshots : List LabelledSnapshot) where
  abbrev it : Participant
  it = old.knows.participant

  abbrev me : Client
  me = having Idle snapshots

  lock_before : ComesBefore me (asking c) it.client (locked (key_of c) (holder.Client it.client) ∷ [])
  lock_before = record {
    log_failed = refl;
    tables_failed = refl;
    none_found = refl;
    quiet = λ due. refl;
    explained = λ r of_log. of_one (IsExplained it.client Idle (asking c) (Some r)) (locked (key_of c) (holder.Client it.client)) (locked_refused c r it.client of_log);
  }

  pub written_answers : (n : ℕ) → WritesDirect z old c (Ok n) new → IsAnswered z old new me me (asking c) (acknowledging c n)
  written_answers n w = (
    one_answers z old new _ _ (wrote_direct (key_of c) it) w.1.0 (Write (c ∷ [])) (locked (key_of c) (holder.Client it.client) ∷ []) me me (asking c) (acknowledging c n) n w.1.1 w.0 refl refl refl
        (fits_made c n it.client) (client_made c n snapshots) (λ before low are. tt) (last_made c n) (λ first before p e front logged. logged_condition c snapshots e before n logged),
    λ world stands only first is_first store so locks. written_alone z first old new only store so (world, stands) snapshots c locks n w,
  )

  busy_answers : (has : HoldsTxn z old held.Idle) (by : Holder) → Finds z old new (Some (key_of c)) by → Answers z old new me me (asking c) (reply.Busy by)
  busy_answers has by f =
      let account : Account = account_of it f.world.locks f.published (Some (key_of c)) by in let event : Event = found (Some (key_of c)) by (length it.seen) account in
      else_answers z old new _ (with_events (event ∷ []) it) (event ∷ []) me me (asking c) (reply.Busy by) 0 f.goes_on refl refl refl
      (record { acknowledges = refl; tables = λ before. refl; labels = λ before. labels_same c before (reply.Busy by); log_failed = refl; log_stopped = refl; tables_failed = refl; once = omega arith; remembered = tt; explained = of_one (IsExplained it.client Idle (asking c) (Some (reply.Busy by))) event tt })
      refl (λ before low are. tt) (last_same c (reply.Busy by) (length new.knows.participant.seen) refl)
      (λ first is_first before p e agrees. busy_condition c snapshots e before by
      (found_busy e before.last (key_of c) by it f.world.locks f.published p.last has.direct (λ name same. has.only name refl)
      (agrees.past event (subst (IsIn event) (sym (ap (λ (q : Participant). q.past) f.goes_on.participant)) (in_last event it.past)))))

  log_refused : (why : TxnError) (r : Reply) → refusal why ≡ Some r → Refuses z old new 1 (λ (entries : List Entry). entries ≡ Write (c ∷ []) ∷ []) (writing_direct (key_of c) it) (wrote_direct (key_of c) it) why → Answers z old new me me (asking c) r
  log_refused = refused_answers z old new me (asking c) 1 (λ (entries : List Entry). entries ≡ Write (c ∷ []) ∷ []) (writes_logged c snapshots) IsLoose tt (writing_direct (key_of c) it) (wrote_direct (key_of c) it) (locked (key_of c) (holder.Client it.client) ∷ []) (λ event there. in_front event it.past (locked (key_of c) (holder.Client it.client) ∷ []) there) refl refl refl lock_before

  pub not_written_answers : HoldsTxn z old held.Idle → (why : TxnError) (r : Reply) → refusal why ≡ Some r → WritesDirect z old c (Err why) new → IsAnswered z old new me me (asking c) r
  not_written_answers has (Busy by) r is f = subst (IsAnswered z old new me me (asking c)) (same_some (reply.Busy by) r is)
      (busy_answers has by f, λ world stands only first is_first store so locks. busy_alone z first old new only store so (world, stands) snapshots c locks has.direct (λ name. has.only name refl) by f)
  not_written_answers has Memory r is f = absurd cc
  not_written_answers has (NumbersFull published limit) r is f = (log_refused (NumbersFull published limit) r is f.0, subst (IsDue z old new me me (asking c)) (same_some (reply.Full published limit) r is) (λ world stands only first is_first store so locks. full_alone z first old new only store so (world, stands) snapshots c locks published limit f))
  not_written_answers has (Stopped n) r is f = (log_refused (Stopped n) r is f.0, subst (IsDue z old new me me (asking c)) (same_some (reply.Stopped n) r is) (λ world stands only first is_first store so locks. stopped_alone z first old new only store so (world, stands) snapshots c locks n f))
  not_written_answers has LogFault r is f = (log_refused LogFault r is f.0, subst (IsDue z old new me me (asking c)) (same_some reply.FaultLog r is) (λ world stands only first is_first store so locks. fault_alone z first old new only store so (world, stands) snapshots c locks f))
  not_written_answers has _ r is f = absurd f.0

  memory_breaks : Continues z old new (wrote_direct (key_of c) it) → BreaksOff old new me (asking c)
  memory_breaks goes = broke_off_after _ z old new (wrote_direct (key_of c) it) goes (locked (key_of c) (holder.Client it.client) ∷ []) me (asking c) refl refl refl
      (of_one (IsExplained it.client Idle (asking c) None) (locked (key_of c) (holder.Client it.client)) (locked_alone c it.client)) refl refl refl

  pub not_written_breaks : (why : TxnError) → refusal why ≡ None → WritesDirect z old c (Err why) new → BreaksOff old new me (asking c)
  not_written_breaks Memory none f = ⊎_elim (λ (k : Keeps z old new). broke_off z old new me (asking c) k) (λ (k : Continues z old new (wrote_direct (key_of c) it) × KeyIsFree z old new (key_of c)). memory_breaks k.0) f
  not_written_breaks (Busy by) none f = absurd cc
  not_written_breaks (NumbersFull published limit) none f = absurd cc
  not_written_breaks (Stopped n) none f = absurd cc
  not_written_breaks LogFault none f = absurd cc
  not_written_breaks _ none f = absurd f.0

-- what the client has then: no transaction, as before
pub written_holds : {D : Type 0} (z : SharedState D) (old new : SeatState) (c : Change) (n : ℕ) → WritesDirect z old c (Ok n) new → HoldsFrom z old new held.Idle held.Idle
written_holds z old new c n w h is has =
    let idle = subst (HoldsTxn z old) is has.txn in let goes = w.1.1.goes_on in holds_now _ z old new _ goes held.Idle held.Idle (λ r. refl) (has_now _ z old new _ goes held.Idle held.Idle refl idle tt idle.only) h is has

-- ... or what it had, where nothing is written
module _ {D : Type 0} (z : SharedState D) (old new : SeatState) (c : Change) (h : HoldingsState) (has : Holds z old h) where
  log_leaves : (why : TxnError) → Refuses z old new 1 (λ (entries : List Entry). entries ≡ Write (c ∷ []) ∷ []) (writing_direct (key_of c) old.knows.participant) (wrote_direct (key_of c) old.knows.participant) why → Holds z new h
  log_leaves why f = refused_holds z old new 1 (λ (entries : List Entry). entries ≡ Write (c ∷ []) ∷ []) (writing_direct (key_of c) old.knows.participant) (wrote_direct (key_of c) old.knows.participant) refl refl refl (past_more _ _) why f h has

  pub not_written_holds : (why : TxnError) → WritesDirect z old c (Err why) new → Holds z new h
  not_written_holds (Busy by) f = holds_still z old new _ refl refl refl f.goes_on (past_more _ _) h has
  not_written_holds Memory f = ⊎_elim (λ (k : Keeps z old new). keeps_holds z old new k h has) (λ (k : Continues z old new (wrote_direct (key_of c) old.knows.participant) × KeyIsFree z old new (key_of c)). holds_still z old new _ refl refl refl k.0 (past_more _ _) h has) f
  not_written_holds (NumbersFull published limit) f = log_leaves (NumbersFull published limit) f.0
  not_written_holds (Stopped n) f = log_leaves (Stopped n) f.0
  not_written_holds LogFault f = log_leaves LogFault f.0
  not_written_holds _ f = absurd f.0
