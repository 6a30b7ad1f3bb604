-- What a client is answered whose open transaction asks for a key, and does not get it.
use Rattle.std.proofs.Common.{◌≡◌, inl, inr, ℕ, ◌≤◌, Bool, false, List, [], ◌∷◌, length, Option, Some, None, refl, sym, subst, ap, ◌∙◌, arith}
use Rattle.std.specs.Prelude.{◌≢◌, IfSome, unwrap_or, if◌then◌else◌}
use Rattle.std.specs.Option.{option_map}
use Rattle.std.specs.Str.{bytes_eq}
use Rattle.std.proofs.lemmas.Bool.{cases_Bool}
use Rattle.std.proofs.lemmas.Slice.Eq.{bytes_eq-Decides}
use mathlib.Core.List.{append-nil}
use Rattle.wp_model.specs.declared.change.Change.{Change}
use Rattle.wp_model.specs.declared.change.Change.TheVariants as change
use Rattle.wp_model.specs.declared.entry.Entry.{Entry}
use Rattle.wp_model.specs.declared.holder.Holder.{Holder}
use Rattle.wp_model.specs.declared.holder.Holder.TheVariants as holder
use Rattle.wp_model.specs.Batch.{key_of}
use Rattle.wp_model.specs.Changed.{conflict}
use Rattle.wp_model.specs.LockState.{Labels}
use Rattle.wp_text.specs.declared.script.Command.{Command}
use Rattle.wp_text.specs.declared.script.Command.TheVariants as command
use Rattle.wp_text.specs.declared.reply.Reply.{Reply}
use Rattle.wp_text.specs.declared.reply.Reply.TheVariants as reply
use Rattle.wp_core.specs.Lists.{IsIn}
use Rattle.wp_core.specs.Reading.{Registration}
use Rattle.wp_core.specs.Views.{Account, Event, locked, found}
use Rattle.wp_core.specs.World.{Participant}
use Rattle.wp_core.proofs.KeepsSeen.{shorter}
use Rattle.wp_core.proofs.PastsGrow.{in_last}
use Rattle.wp_model.proofs.Tests.{same_some}
use Rattle.wp_rule.specs.Accounts.{account_of}
use Rattle.wp_shared.specs.Calls.{with_events}
use Rattle.wp_shared.specs.Seats.{SharedState, SeatState}
use Rattle.wp_open_txns.specs.declared.error.TxnError.{TxnError}
use Rattle.wp_open_txns.specs.declared.error.TxnError.TheVariants.{Memory, Busy, TooMany, Conflict, Silent}
use Rattle.wp_open_txns.specs.Calls.{Keeps, RefusesKey}
use Rattle.wp_open_txns.specs.Txn.{OpenState}
use Rattle.wp_replies.specs.declared.client.LabelledSnapshot.{LabelledSnapshot}
use Rattle.wp_replies.specs.Txn.{Staged, Open, is_its_key}
use Rattle.wp_replies.specs.Client.{Client, has_no_room}
use Rattle.wp_replies.specs.After.{after_reply}
use Rattle.wp_replies.specs.Due.{board_after, client_after}
use Rattle.wp_replies.specs.Kind.{number_in, fresh_in}
use Rattle.wp_replies.specs.Progress.{Progress, heard_after}
use Rattle.wp_replies.specs.Replies.{Evidence, IsBusy, WasChanged, refusal_of, Allows, Condition, UnlessRefused}
use Rattle.wp_client.specs.declared.holdings.HeldTxn.TheVariants as held
use Rattle.wp_client.specs.Answers.{IsExplained, Answers}
use Rattle.wp_client.specs.Holdings.{HoldingsState, staged_of, HoldsTxn, Holds, HoldsFrom}
use Rattle.wp_client.specs.Replies.{asking, refusal}
use Rattle.wp_client.proofs.Fitting.{else_answers}
use Rattle.wp_client.proofs.Clients.{having, holds_from}
use Rattle.wp_client.proofs.Growing.{of_one, seen_taken, last_still}
use Rattle.wp_client.proofs.Holders.{found_busy}
use Rattle.wp_client.proofs.Labels.{itself}
use Rattle.wp_client.proofs.Noting.{ComesNone, noted_still}
use Rattle.wp_client.proofs.Staying.{past_more, holds_still, keeps_holds}
use Rattle.wp_client.proofs.Alone.Changing.{full_has_none, not_full_has_room}

-- the open transaction is refused the key so
abbrev pub no_room : Staged → List ℕ → Option Reply
no_room own key = if has_no_room own key then Some reply.TooMany else None

-- The command asks an open transaction for the key: a change of it, or a lock. These are its rows where it does not get it.
pub record Asks (c : Command) (key : List ℕ) : Type 0 where
  pub refuses : (own : Staged) (snapshots : List LabelledSnapshot) → refusal_of (having (Open own) snapshots) c ≡ no_room own key
  pub busy : (e : Evidence) (before : Progress) (own : Staged) (snapshots : List LabelledSnapshot) (by : Holder) → is_its_key own key ≡ false → IsBusy e before.last key by → Condition e before (having (Open own) snapshots) 0 c (reply.Busy by)
  pub changed : (e : Evidence) (before : Progress) (own : Staged) (snapshots : List LabelledSnapshot) (n : ℕ) → is_its_key own key ≡ false → WasChanged e.history before.last own key n → Condition e before (having (Open own) snapshots) 0 c (reply.Conflict n)
  pub explained : (client : List ℕ) (own : Staged) (n : ℕ) → IsExplained client (Open own) c (Some (reply.Conflict n)) (locked key (holder.Txn own.name))
  pub labels : (before : List (List ℕ)) (r : Reply) → heard_after before c r ≡ before
  pub board : (before : Labels) (r : Reply) → board_after before c r ≡ before
  pub takes_none : (history : List Entry) (client : Client) (r : Reply) → client_after history client c r ≡ after_reply 0 client c r
  pub unfresh : (r : Reply) → number_in r ≡ None → fresh_in c r ≡ None
  pub full_none : ComesNone c reply.TooMany
  pub busy_none : (by : Holder) → ComesNone c (reply.Busy by)
  pub changed_none : (n : ℕ) → ComesNone c (reply.Conflict n)
  pub full_same : (client : Client) → client ≡ after_reply 0 client c reply.TooMany
  pub busy_same : (client : Client) (by : Holder) → client ≡ after_reply 0 client c (reply.Busy by)
  pub changed_same : (client : Client) (n : ℕ) → client ≡ after_reply 0 client c (reply.Conflict n)

pub asks_change : (c : Change) → Asks (asking c) (key_of c)
asks_change (change.Put key value) = record {
  refuses = λ own snapshots. refl;
  busy = λ e before own snapshots by new busy. (new, busy);
  changed = λ e before own snapshots n new was. (new, was);
  explained = λ client own n. rw (itself own.name, itself key) refl;
  labels = λ before r. refl;
  board = λ before r. refl;
  takes_none = λ history client r. refl;
  unfresh = λ r none. none;
  full_none = λ before. refl;
  busy_none = λ by before. refl;
  changed_none = λ n before. refl;
  full_same = λ client. refl;
  busy_same = λ client by. refl;
  changed_same = λ client n. refl;
}
asks_change (change.Del key) = record {
  refuses = λ own snapshots. refl;
  busy = λ e before own snapshots by new busy. (new, busy);
  changed = λ e before own snapshots n new was. (new, was);
  explained = λ client own n. rw (itself own.name, itself key) refl;
  labels = λ before r. refl;
  board = λ before r. refl;
  takes_none = λ history client r. refl;
  unfresh = λ r none. none;
  full_none = λ before. refl;
  busy_none = λ by before. refl;
  changed_none = λ n before. refl;
  full_same = λ client. refl;
  busy_same = λ client by. refl;
  changed_same = λ client n. refl;
}

pub asks_lock : (key : List ℕ) → Asks (command.Lock key) key
asks_lock key = record {
  refuses = λ own snapshots. refl;
  busy = λ e before own snapshots by new busy. (new, busy);
  changed = λ e before own snapshots n new was. (new, was);
  explained = λ client own n. rw (itself own.name, itself key) refl;
  labels = λ before r. refl;
  board = λ before r. refl;
  takes_none = λ history client r. refl;
  unfresh = λ r none. none;
  full_none = λ before. refl;
  busy_none = λ by before. refl;
  changed_none = λ n before. refl;
  full_same = λ client. refl;
  busy_same = λ client by. refl;
  changed_same = λ client n. refl;
}

-- where there is room the row has the last word
pub with_room : (c : Command) (key : List ℕ) → Asks c key → (own : Staged) (snapshots : List LabelledSnapshot) (e : Evidence) (before : Progress) (r : Reply) → has_no_room own key ≡ false → Condition e before (having (Open own) snapshots) 0 c r → Allows e before (having (Open own) snapshots) 0 c r
with_room c key asks own snapshots e before r room condition =
    let free : refusal_of (having (Open own) snapshots) c ≡ None = asks.refuses own snapshots ∙ ap (λ (b : Bool). if b then Some reply.TooMany else None) room in
    subst (λ (o : Option Reply). UnlessRefused o r (Condition e before (having (Open own) snapshots) 0 c r)) (sym free) condition

-- the holder is no transaction of its own
pub not_own : (own : List ℕ) (by : Holder) → (by ≡ holder.Txn own → ⊥) → (name : List ℕ) → by ≡ holder.Txn name → bytes_eq own name ≡ false
not_own own by other name same = elim (cases_Bool (bytes_eq own name)) [
  | inl is ↦ absurd (other (same ∙ ap holder.Txn (sym ((bytes_eq-Decides own name).0 is))))
  | inr ne ↦ ne
]

module _ {D : Type 0} (z : SharedState D) (old new : SeatState) (txn left : OpenState) (c : Command) (key : List ℕ) (asks : Asks c key) (snapshots : List LabelledSnapshot) (has : HoldsTxn z old (held.Open txn)) where
  abbrev it : Participant
  it = old.knows.participant

  abbrev own : Staged
  own = staged_of txn

  abbrev before_it : Client
  before_it = having (Open own) snapshots

  abbrev after_it : Client
  after_it = having (Open (staged_of left)) snapshots

  same_left : left ≡ txn → after_it ≡ before_it
  same_left is = ap (λ (x : OpenState). having (Open (staged_of x)) snapshots) is

  -- a reply without a number leaves the last one
  last_same : (r : Reply) → number_in r ≡ None → (before : ℕ) → before ≤ length new.knows.participant.seen → unwrap_or (fresh_in c r) before ≤ length new.knows.participant.seen
  last_same r none before low = subst (λ (o : Option ℕ). unwrap_or o before ≤ length new.knows.participant.seen) (sym (asks.unfresh r none)) low

  never_late : (r : Reply) → number_in r ≡ None → IfSome (fresh_in c r) (λ n. length old.knows.participant.seen ≤ n)
  never_late r none = subst (λ (o : Option ℕ). IfSome o (λ n. length old.knows.participant.seen ≤ n)) (sym (asks.unfresh r none)) tt

  back : (r : Reply) → left ≡ txn → Answers z old new before_it before_it c r → Answers z old new before_it after_it c r
  back r is k = subst (λ (x : Client). Answers z old new before_it x c r) (sym (same_left is)) k

  full_answers : RefusesKey z old txn key TooMany new left → Answers z old new before_it after_it c reply.TooMany
  full_answers k = back reply.TooMany k.0
      (else_answers z old new _ it [] before_it before_it c reply.TooMany 0 k.3 refl refl (sym (append-nil it.past))
      (record { acknowledges = refl; tables = λ before. refl; labels = λ before. asks.labels before reply.TooMany; log_failed = refl; log_stopped = refl; tables_failed = refl; once = omega arith; remembered = tt; explained = λ event there. absurd there })
      (asks.full_same before_it) (noted_still z old new it k.3 (Open own) c reply.TooMany asks.full_none (never_late reply.TooMany refl)) (last_same reply.TooMany refl)
      (λ first is_first before p e agrees.
      let refused : refusal_of before_it c ≡ Some reply.TooMany = asks.refuses own snapshots ∙ ap (λ (b : Bool). if b then Some reply.TooMany else None) (full_has_none txn key k.2) in
      subst (λ (o : Option Reply). UnlessRefused o reply.TooMany (Condition e before before_it 0 c reply.TooMany)) (sym refused) refl))

  busy_answers : (by : Holder) → RefusesKey z old txn key (Busy by) new left → Answers z old new before_it after_it c (reply.Busy by)
  busy_answers by k = let f = k.5 in
      let account : Account = account_of it f.world.locks f.published (Some key) by in let event : Event = found (Some key) by (length it.seen) account in
      back (reply.Busy by) k.0
      (else_answers z old new _ (with_events (event ∷ []) it) (event ∷ []) before_it before_it c (reply.Busy by) 0 f.goes_on refl refl refl
      (record { acknowledges = refl; tables = λ before. refl; labels = λ before. asks.labels before (reply.Busy by); log_failed = refl; log_stopped = refl; tables_failed = refl; once = omega arith; remembered = tt; explained = of_one (IsExplained it.client (Open own) c (Some (reply.Busy by))) event tt })
      (asks.busy_same before_it by) (noted_still z old new _ f.goes_on (Open own) c (reply.Busy by) (asks.busy_none by) (never_late (reply.Busy by) refl)) (last_same (reply.Busy by) refl)
      (λ first is_first before p e agrees. with_room c key asks own snapshots e before (reply.Busy by) (not_full_has_room txn key has.has.few.few k.2) (asks.busy e before own snapshots by k.3
      (found_busy e before.last key by it f.world.locks f.published p.last has.direct (λ name same. has.only name (not_own txn.name by k.4 name same))
      (agrees.past event (subst (IsIn event) (sym (ap (λ (q : Participant). q.past) f.goes_on.participant)) (in_last event it.past)))))))

  conflict_answers : (n : ℕ) → RefusesKey z old txn key (Conflict n) new left → Answers z old new before_it after_it c (reply.Conflict n)
  conflict_answers n k = let seen = new.knows.participant.seen in let why = k.3 in let given = k.4 in let event : Event = locked key (holder.Txn txn.name) in
      back (reply.Conflict n) k.0
      (else_answers z old new _ (with_events (event ∷ []) it) (event ∷ []) before_it before_it c (reply.Conflict n) 0 given.goes_on refl refl refl
      (record { acknowledges = refl; tables = λ before. refl; labels = λ before. asks.labels before (reply.Conflict n); log_failed = refl; log_stopped = refl; tables_failed = refl; once = omega arith; remembered = tt; explained = of_one (IsExplained it.client (Open own) c (Some (reply.Conflict n))) event (asks.explained it.client own n) })
      (asks.changed_same before_it n) (noted_still z old new _ given.goes_on (Open own) c (reply.Conflict n) (asks.changed_none n) (never_late (reply.Conflict n) refl)) (last_same (reply.Conflict n) refl)
      (λ first is_first before p e agrees. with_room c key asks own snapshots e before (reply.Conflict n) (not_full_has_room txn key has.has.few.few k.2) (asks.changed e before own snapshots n given.not_its (record {
        at = length seen;
        fresh = (last_still first old (Open own) new.knows.participant before given.goes_on.seen p, shorter e.history seen agrees.seen);
        pin = why.pin.number;
        pinned = ap (option_map (λ (r : Registration). r.number)) why.pinned;
        changed = ap (λ (h : List Entry). conflict h key why.pin.number) (seen_taken e.history seen agrees.seen) ∙ why.last;
      }))))

  pub refused_beside : (why : TxnError) (r : Reply) → refusal why ≡ Some r → RefusesKey z old txn key why new left → Answers z old new before_it after_it c r
  refused_beside (Busy by) r is k = subst (Answers z old new before_it after_it c) (same_some (reply.Busy by) r is) (busy_answers by k)
  refused_beside TooMany r is k = subst (Answers z old new before_it after_it c) (same_some reply.TooMany r is) (full_answers k)
  refused_beside (Conflict n) r is k = subst (Answers z old new before_it after_it c) (same_some (reply.Conflict n) r is) (conflict_answers n k)
  refused_beside Memory r is k = absurd cc
  refused_beside _ r is k = absurd k

  pub refused_named : (why : TxnError) → RefusesKey z old txn key why new left → why ≢ Silent
  refused_named why k is = subst (λ (w : TxnError). RefusesKey z old txn key w new left) is k

  back_holds : left ≡ txn → ((h : HoldingsState) → Holds z old h → Holds z new h) → HoldsFrom z old new (held.Open txn) (held.Open left)
  back_holds is each = subst (λ (x : OpenState). HoldsFrom z old new (held.Open txn) (held.Open x)) (sym is) (holds_from z old new (held.Open txn) each)

  pub refused_holds : (why : TxnError) → RefusesKey z old txn key why new left → HoldsFrom z old new (held.Open txn) (held.Open left)
  refused_holds (Busy by) k = back_holds k.0 (holds_still z old new _ refl refl refl k.5.goes_on (past_more _ _))
  refused_holds TooMany k = back_holds k.0 (keeps_holds z old new k.3)
  refused_holds (Conflict n) k = back_holds k.0 (holds_still z old new _ refl refl refl k.4.goes_on (past_more _ _))
  refused_holds Memory k = back_holds k.0 (keeps_holds z old new k.2)
  refused_holds _ k = absurd k

  -- memory was wanting, and the transaction is as it was
  pub refused_same : (why : TxnError) → refusal why ≡ None → RefusesKey z old txn key why new left → left ≡ txn
  refused_same Memory none k = k.0
  refused_same (Busy by) none k = absurd cc
  refused_same TooMany none k = absurd cc
  refused_same (Conflict n) none k = absurd cc
  refused_same _ none k = absurd k

  pub refused_keeps : (why : TxnError) → refusal why ≡ None → RefusesKey z old txn key why new left → Keeps z old new
  refused_keeps Memory none k = k.2
  refused_keeps (Busy by) none k = absurd cc
  refused_keeps TooMany none k = absurd cc
  refused_keeps (Conflict n) none k = absurd cc
  refused_keeps _ none k = absurd k
