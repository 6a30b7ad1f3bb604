-- What a client is answered whose command the log does not take.
use Rattle.std.proofs.Common.{◌≡◌, ⊎_elim, inl, inr, ℕ, ◌+◌, ◌≤◌, ◌==◌, Bool, true, false, if◌then◌else◌, eq-eqb, ne_eqb, List, [], ◌∷◌, ◌++◌, length, Option, Some, None, refl, sym, subst, ap, ◌∙◌, append_assoc, arith}
use Rattle.std.proofs.lemmas.Bool.{cases_lt}
use Rattle.std.specs.Prelude.{IfSome, unwrap_or}
use Rattle.wp_model.specs.declared.entry.Entry.{Entry}
use Rattle.wp_model.specs.Flushed.{InstalledEdit}
use Rattle.wp_text.specs.declared.script.Command.{Command}
use Rattle.wp_text.specs.declared.reply.Reply.{Reply}
use Rattle.wp_text.specs.declared.reply.Reply.TheVariants as reply
use Rattle.wp_core.specs.Lists.{IsIn, one_if}
use Rattle.wp_core.specs.Sound.Pasts.{closes_log, due_after}
use Rattle.wp_core.specs.Sound.Pasts as pasts
use Rattle.wp_core.specs.Sound.Actors.{StartsWith}
use Rattle.wp_core.specs.Views.{Event, Fact, log_failed, stopped, based_at}
use Rattle.wp_core.specs.World.{Participant}
use Rattle.wp_core.proofs.KeepsSeen.{shorter}
use Rattle.wp_core.proofs.PastsGrow.{in_last, in_either, total_more}
use Rattle.wp_model.proofs.Tests.{same_some}
use Rattle.wp_rule.proofs.Knows.{one_was_first}
use Rattle.wp_rule.specs.Shows.{WasLast}
use Rattle.wp_shared.specs.Calls.{ContinuesWith, Continues, with_events}
use Rattle.wp_parts.specs.Parts.{content}
use Rattle.wp_shared.specs.Limits.{limit_at}
use Rattle.wp_shared.proofs.Limits.{limit_opened, limit_renewed}
use Rattle.wp_shared.specs.Seats.{SharedState, SeatState, place_at}
use Rattle.wp_open_txns.specs.declared.error.TxnError.{TxnError}
use Rattle.wp_open_txns.specs.declared.error.TxnError.TheVariants.{Memory, NumbersFull, LogFault, Stopped}
use Rattle.wp_txn.specs.Writes.{RefusesWith, Refuses}
use Rattle.wp_replies.specs.Client.{Client}
use Rattle.wp_replies.specs.Kind.{number_in, fresh_in, last_after}
use Rattle.wp_replies.specs.Progress.{Progress, heard_after}
use Rattle.wp_replies.specs.Replies.{Limits, limit_at_base, IsLimit, Evidence, refusal_of, needed, AsksFor, IsFresh, Condition, UnlessRefused, Allows}
use Rattle.wp_replies.proofs.Scenes.{needs_no_renewal}
use Rattle.wp_client.specs.Agrees.{Agrees}
use Rattle.wp_client.specs.Alone.{log_faults, device_faults, tables_faults}
use Rattle.wp_client.specs.Answers.{IsProgress, IsExplained, is_finding, findings, Answers}
use Rattle.wp_client.specs.Holdings.{HoldingsState, Holds}
use Rattle.wp_client.specs.Replies.{refusal}
use Rattle.wp_client.proofs.Alone.Published.{no_device_fault}
use Rattle.wp_client.proofs.Fitting.{else_answers}
use Rattle.wp_client.proofs.Growing.{InstallNothing, due_still, last_still}
use Rattle.wp_client.proofs.Noting.{KeepsNoted, ComesNone, KeepsUnchanged, noted_with}
use Rattle.wp_answers.proofs.Risen.{base_within, base_there, base_between}
use Rattle.wp_client.proofs.Staying.{KeepsPast, past_more, holds_still}

-- the log does not take it: its numbers are full, it fails, or it failed before
abbrev pub IsOfLog : Reply → Type 0
IsOfLog (reply.Full published most) = Unit {0}
IsOfLog reply.FaultLog = Unit {0}
IsOfLog (reply.Stopped n) = Unit {0}
IsOfLog other = ⊥

-- The command asks the log for so many entries, and such, as the client had seen the one of these and its seat has seen the other by then;
-- the client's own state does not refuse it. Its replies have nothing of labels, and no key comes with one that the log refuses it by.
pub record IsLogged (had seen : List Entry) (client : Client) (c : Command) (needs : ℕ) (Asks : List Entry → Type 0) : Type 0 where
  pub free : refusal_of client c ≡ None
  pub some : 1 ≤ needs
  pub needs_is : needed client.txn c ≡ needs
  pub asks : (entries : List Entry) → Asks entries → (history : List Entry) (last : ℕ) → StartsWith history seen → last ≤ length had → AsksFor history last client.txn c entries
  pub fresh : (r : Reply) → fresh_in c r ≡ number_in r
  pub comes : (r : Reply) → IsOfLog r → ComesNone c r
  pub labels : (before : List (List ℕ)) (r : Reply) → heard_after before c r ≡ before

-- these events have nothing of faults and edits, nor of what was found, and are explained by the command, unless it was taken by
-- the log
pub record ComesBefore (client : Client) (c : Command) (name : List ℕ) (front : List Event) : Type 0 where
  pub log_failed : log_faults front ≡ 0
  pub tables_failed : tables_faults front ≡ 0
  pub none_found : findings front ≡ 0
  pub quiet : InstallNothing front
  pub explained : (r : Reply) → IsOfLog r → (event : Event) → IsIn event front → IsExplained name client.txn c (Some r) event

pub none_before : (client : Client) (c : Command) (name : List ℕ) → ComesBefore client c name []
none_before client c name = record { log_failed = refl; tables_failed = refl; none_found = refl; quiet = λ due. refl; explained = λ r of_log event there. absurd there }

-- What is so of a refusal of the log, where it is so of the three that have a reply.
module _ {D : Type 0} (Stays : Fact → Type 0) (z : SharedState D) (old new : SeatState) (needs : ℕ) (Asks : List Entry → Type 0) (found after : Participant) (P : Reply → Type 0)
    (full : (published limit : ℕ) → RefusesWith Stays z old new needs Asks found after (NumbersFull published limit) → P (reply.Full published limit))
    (halted : (n : ℕ) → RefusesWith Stays z old new needs Asks found after (Stopped n) → P (reply.Stopped n))
    (failed : RefusesWith Stays z old new needs Asks found after LogFault → P reply.FaultLog) where
  pub by_refusal : (why : TxnError) (r : Reply) → refusal why ≡ Some r → RefusesWith Stays z old new needs Asks found after why → P r
  by_refusal (NumbersFull published limit) r is f = subst P (same_some (reply.Full published limit) r is) (full published limit f)
  by_refusal (Stopped n) r is f = subst P (same_some (reply.Stopped n) r is) (halted n f)
  by_refusal LogFault r is f = subst P (same_some reply.FaultLog r is) (failed f)
  by_refusal Memory r is f = absurd cc
  by_refusal _ r is f = absurd f

-- ---- one event more

module _ (front : List Event) (last : Event) where
  log_more : log_faults (front ++ last ∷ []) ≡ log_faults front + one_if (closes_log last)
  log_more = total_more (λ (e : Event). one_if (closes_log e)) front last

  device_more : device_faults (front ++ last ∷ []) ≡ device_faults front + one_if (pasts.is_log_fault last)
  device_more = total_more (λ (e : Event). one_if (pasts.is_log_fault e)) front last

  tables_more : tables_faults (front ++ last ∷ []) ≡ tables_faults front + one_if (pasts.is_tables_fault last)
  tables_more = total_more (λ (e : Event). one_if (pasts.is_tables_fault e)) front last

  found_more : findings (front ++ last ∷ []) ≡ findings front + one_if (is_finding last)
  found_more = total_more (λ (e : Event). one_if (is_finding e)) front last

  quiet_more : InstallNothing front → ((due : ℕ) → due_after due last ≡ due) → InstallNothing (front ++ last ∷ [])
  quiet_more quiet still due = due_still due front (last ∷ []) still ∙ quiet due

module _ {D : Type 0} (z : SharedState D) (old new : SeatState) (client : Client) (c : Command) (needs : ℕ) (Asks : List Entry → Type 0) (logged : IsLogged old.knows.participant.seen new.knows.participant.seen client c needs Asks) (Stays : Fact → Type 0) (keeps : KeepsUnchanged Stays client.txn) where
  abbrev it : Participant
  it = old.knows.participant

  -- a fresh number that is the length of what was seen
  fresh_number : (first : InstalledEdit) (before : Progress) (e : Evidence) (n : ℕ) (after : Participant) → ContinuesWith Stays z old new after → n ≡ length new.knows.participant.seen → IsProgress first old client.txn before → Agrees e z new.knows.participant → IsFresh e.history before.last n
  fresh_number first before e n after goes is k agrees =
      let low = last_still first old client.txn new.knows.participant before goes.seen k in let high = shorter e.history new.knows.participant.seen agrees.seen in (omega (arith, is, low), omega (arith, is, high))

  -- the reply of the log has no number, so the client knows of nothing later
  same_last : (r : Reply) → number_in r ≡ None → (before : ℕ) → before ≤ length new.knows.participant.seen → last_after before c r ≤ length new.knows.participant.seen
  same_last r none before low = let is : last_after before c r ≡ before = ap (λ (o : Option ℕ). unwrap_or o before) (logged.fresh r ∙ none) in omega (arith, is, low)

  -- what is noted of the keys stays
  still_noted : {after : Participant} (r : Reply) → IsOfLog r → number_in r ≡ None → ContinuesWith Stays z old new after → KeepsNoted old new client.txn client.txn c r
  still_noted {after} r of_log none goes = noted_with Stays z old new after goes client.txn keeps c r (logged.comes r of_log) (subst (λ (o : Option ℕ). IfSome o (λ n. length it.seen ≤ n)) (sym (logged.fresh r ∙ none)) tt)

  -- the row of the reply has the last word
  by_condition : (e : Evidence) (before : Progress) (r : Reply) → Condition e before client 0 c r → Allows e before client 0 c r
  by_condition e before r condition = subst (λ (o : Option Reply). UnlessRefused o r (Condition e before client 0 c r)) (sym logged.free) condition

  module _ (found after : Participant) (front : List Event) (begins : (event : Event) → IsIn event it.past → IsIn event found.past) (same_client : after.client ≡ it.client) (own : after.own ≡ it.own) (past : after.past ≡ it.past ++ front) (k : ComesBefore client c it.client front) where
    -- the past with one event more
    past_with : (last : Event) → after.past ++ last ∷ [] ≡ it.past ++ (front ++ last ∷ [])
    past_with last = ap (λ (es : List Event). es ++ last ∷ []) past ∙ append_assoc it.past front (last ∷ [])

    -- the base that the log was found with
    abbrev base_of : (published limit : ℕ) → RefusesWith Stays z old new needs Asks found after (NumbersFull published limit) → ℕ
    base_of published limit f = f.2.world.installed.last.segment.base

    -- the limit is that of a log with this base, which is no lower than the one that the store was opened with
    limit_is : (first : InstalledEdit) → WasLast content z.first first → (e : Evidence) → Agrees e z new.knows.participant → (base : ℕ) → first.segment.base ≤ base → limit_at z base ≡ limit_at_base e base
    limit_is first is_first e agrees base low =
        let was = agrees.opened first is_first in let opened = agrees.base first is_first in
        elim (cases_lt first.segment.base base) [
          | inl above ↦
              let other : (base == e.base) ≡ false = ne_eqb base e.base (λ same. omega (arith, above, same, opened)) in
              limit_renewed z first.segment.base was base above ∙ (ap (λ (l : Limits). l.renewed) (sym agrees.limits) ∙ sym (ap (λ (b : Bool). if b then e.limits.opened else e.limits.renewed) other))
          | inr none ↦
              let is : base ≡ first.segment.base = omega (arith, none, low) in
              let same : (base == e.base) ≡ true = eq-eqb base e.base (is ∙ sym opened) in
              ap (limit_at z) is ∙ (limit_opened z first.segment.base was ∙ (ap (λ (l : Limits). l.opened) (sym agrees.limits) ∙ sym (ap (λ (b : Bool). if b then e.limits.opened else e.limits.renewed) same)))
        ]

    is_limit : (first : InstalledEdit) → WasLast content z.first first → (before : Progress) → IsProgress first old client.txn before → (e : Evidence) (published limit : ℕ) → RefusesWith Stays z old new needs Asks found after (NumbersFull published limit) → Agrees e z new.knows.participant → IsLimit e before published limit
    is_limit first is_first before p e published limit f agrees =
        let w = f.2.world in let base = base_of published limit f in
        let known = base_between first w f.2.there.reached (place_at z old.by).by f.2.actor f.2.there.there (one_was_first content z.first w.first_edit first f.2.there.first_edit is_first) before.base
        (base_there first before.base it.past f.2.actor.participant.past (λ event there. subst (λ (past : List Event). IsIn event past) (sym (ap (λ (q : Participant). q.past) f.2.participant)) (begins event there)) p.base) in
        let told = agrees.past (based_at published base) (subst (IsIn (based_at published base)) (sym (ap (λ (q : Participant). q.past) f.4.participant)) (in_last (based_at published base) after.past)) in
        let within : base ≤ published = (let high = base_within w f.2.there.reached in let all = ap (λ (h : List Entry). length h) f.2.history_is in let is = f.0 in omega (arith, high, all, is)) in
        (base, (told.0, known.1, within, told.1), f.3 ∙ limit_is first is_first e agrees base (omega (arith, known.0, known.1)))

    full_answers : (published limit : ℕ) → RefusesWith Stays z old new needs Asks found after (NumbersFull published limit) → Answers z old new client client c (reply.Full published limit)
    full_answers published limit f =
        let last : Event = based_at published (base_of published limit f) in
        else_answers z old new _ (with_events (last ∷ []) after) (front ++ last ∷ []) client client c (reply.Full published limit) 0 f.4 same_client own (past_with last)
        (record {
          acknowledges = refl;
          tables = λ before. sym (quiet_more front last k.quiet (λ due. refl) before);
          labels = λ before. logged.labels before (reply.Full published limit);
          log_failed = (let m = device_more front last in let none = no_device_fault front k.log_failed in omega (arith, m, none));
          log_stopped = (let m = log_more front last in let none = k.log_failed in omega (arith, m, none));
          tables_failed = (let m = tables_more front last in let none = k.tables_failed in omega (arith, m, none));
          once = (let m = found_more front last in let none = k.none_found in omega (arith, m, none));
          remembered = tt;
          explained = λ event there. ⊎_elim (λ (t : IsIn event front). k.explained (reply.Full published limit) tt event t)
              (λ (same : last ≡ event). subst (IsExplained it.client client.txn c (Some (reply.Full published limit))) same tt) (in_either event last front there);
        })
        refl (still_noted (reply.Full published limit) tt refl f.4) (same_last (reply.Full published limit) refl)
        (λ first is_first before p e agrees. by_condition e before (reply.Full published limit) (
          (let n = logged.needs_is in let some = logged.some in omega (arith, n, some)),
          fresh_number first before e published (with_events (last ∷ []) after) f.4 f.0 p agrees,
          is_limit first is_first before p e published limit f agrees,
          (let n = logged.needs_is in let low = f.1 in omega (arith, n, low)),
        ))

    stopped_answers : (n : ℕ) → RefusesWith Stays z old new needs Asks found after (Stopped n) → Answers z old new client client c (reply.Stopped n)
    stopped_answers n f =
        else_answers z old new _ (with_events (stopped n ∷ []) after) (front ++ stopped n ∷ []) client client c (reply.Stopped n) 0 f.2 same_client own (past_with (stopped n))
        (record {
          acknowledges = refl;
          tables = λ before. sym (quiet_more front (stopped n) k.quiet (λ due. refl) before);
          labels = λ before. logged.labels before (reply.Stopped n);
          log_failed = (let m = device_more front (stopped n) in let none = no_device_fault front k.log_failed in omega (arith, m, none));
          log_stopped = (let m = log_more front (stopped n) in let none = k.log_failed in omega (arith, m, none));
          tables_failed = (let m = tables_more front (stopped n) in let none = k.tables_failed in omega (arith, m, none));
          once = (let m = found_more front (stopped n) in let none = k.none_found in omega (arith, m, none));
          remembered = in_last (stopped n) front;
          explained = λ event there. ⊎_elim (λ (t : IsIn event front). k.explained (reply.Stopped n) tt event t)
              (λ (same : stopped n ≡ event). subst (IsExplained it.client client.txn c (Some (reply.Stopped n))) same tt) (in_either event (stopped n) front there);
        })
        refl (still_noted (reply.Stopped n) tt refl f.2) (same_last (reply.Stopped n) refl)
        (λ first is_first before p e agrees. by_condition e before (reply.Stopped n) (
          inl (let m = logged.needs_is in let some = logged.some in omega (arith, m, some)),
          fresh_number first before e n (with_events (stopped n ∷ []) after) f.2 f.0 p agrees,
          agrees.past (stopped n) (subst (IsIn (stopped n)) (sym (ap (λ (q : Participant). q.past) f.2.participant)) (in_last (stopped n) after.past)),
        ))

    failed_answers : RefusesWith Stays z old new needs Asks found after LogFault → Answers z old new client client c reply.FaultLog
    failed_answers f = let entries = f.2.0 in let goes = f.2.2 in
        else_answers z old new _ (with_events (log_failed entries ∷ []) after) (front ++ log_failed entries ∷ []) client client c reply.FaultLog 0 goes same_client own (past_with (log_failed entries))
        (record {
          acknowledges = refl;
          tables = λ before. sym (quiet_more front (log_failed entries) k.quiet (λ due. refl) before);
          labels = λ before. logged.labels before reply.FaultLog;
          log_failed = (let m = device_more front (log_failed entries) in let none = no_device_fault front k.log_failed in omega (arith, m, none));
          log_stopped = (let m = log_more front (log_failed entries) in let none = k.log_failed in omega (arith, m, none));
          tables_failed = (let m = tables_more front (log_failed entries) in let none = k.tables_failed in omega (arith, m, none));
          once = (let m = found_more front (log_failed entries) in let none = k.none_found in omega (arith, m, none));
          remembered = tt;
          explained = λ event there. ⊎_elim (λ (t : IsIn event front). k.explained reply.FaultLog tt event t)
              (λ (same : log_failed entries ≡ event). subst (IsExplained it.client client.txn c (Some reply.FaultLog)) same tt) (in_either event (log_failed entries) front there);
        })
        refl (still_noted reply.FaultLog tt refl goes) (same_last reply.FaultLog refl)
        (λ first is_first before p e agrees. by_condition e before reply.FaultLog (
          subst (AsksFor e.history before.last client.txn c) (sym (agrees.past (log_failed entries) (subst (IsIn (log_failed entries)) (sym (ap (λ (q : Participant). q.past) goes.participant)) (in_last (log_failed entries) after.past))).0) (logged.asks entries f.2.1 e.history before.last agrees.seen p.last),
          needs_no_renewal e client.txn c (let n = logged.needs_is in let some = logged.some in omega (arith, n, some)),
        ))

    -- each refusal of the log, with its reply
    pub refused_answers : (why : TxnError) (r : Reply) → refusal why ≡ Some r → RefusesWith Stays z old new needs Asks found after why → Answers z old new client client c r
    refused_answers = by_refusal Stays z old new needs Asks found after (Answers z old new client client c) full_answers stopped_answers failed_answers

-- ---- what the seat has then

module _ {D : Type 0} (z : SharedState D) (old new : SeatState) (needs : ℕ) (Asks : List Entry → Type 0) (found after : Participant) where
  -- the client has what it had
  pub refused_holds : after.transactions ≡ old.knows.participant.transactions → after.direct ≡ old.knows.participant.direct → after.registered ≡ old.knows.participant.registered → KeepsPast old.knows.participant.past after.past
      → (why : TxnError) → Refuses z old new needs Asks found after why → (h : HoldingsState) → Holds z old h → Holds z new h
  refused_holds ts direct registered past Memory f h has = holds_still z old new after ts direct registered f past h has
  refused_holds ts direct registered past (Stopped n) f h has = holds_still z old new (with_events (stopped n ∷ []) after) ts direct registered f.2 (λ event there. past_more after.past (stopped n ∷ []) event (past event there)) h has
  refused_holds ts direct registered past (NumbersFull published limit) f h has = let event : Event = based_at published f.2.world.installed.last.segment.base in holds_still z old new (with_events (event ∷ []) after) ts direct registered f.4 (λ other there. past_more after.past (event ∷ []) other (past other there)) h has
  refused_holds ts direct registered past LogFault f h has = holds_still z old new (with_events (log_failed f.2.0 ∷ []) after) ts direct registered f.2.2 (λ event there. past_more after.past (log_failed f.2.0 ∷ []) event (past event there)) h has
  refused_holds ts direct registered past _ f h has = absurd f

  -- where no reply is due, memory was wanting
  pub refused_memory : (why : TxnError) → refusal why ≡ None → Refuses z old new needs Asks found after why → Continues z old new after
  refused_memory Memory none f = f
  refused_memory (Stopped n) none f = absurd cc
  refused_memory (NumbersFull published limit) none f = absurd cc
  refused_memory LogFault none f = absurd cc
  refused_memory _ none f = absurd f
