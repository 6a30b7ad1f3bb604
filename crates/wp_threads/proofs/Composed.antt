-- What all sessions say of the history that is left.
use Rattle.std.proofs.Common.{◌≡◌, inl, inr, ℕ, suc, ◌+◌, ◌<◌, ◌≤◌, Bool, true, false, List, [], ◌∷◌, ◌++◌, length, length-append, map, refl, sym, subst, ap, ◌∙◌, append_assoc, arith}
use Rattle.std.specs.Prelude.{count_by}
use Rattle.std.specs.List.{list_any}
use mathlib.Core.List.{append-nil}
use mathlib.Core.Option.{some}
use lib.ListN.{get_elem?}
use Rattle.wp_model.specs.declared.entry.Entry.{Entry}
use Rattle.wp_text.specs.declared.script.Command.{Command}
use Rattle.wp_text.specs.declared.script.Part.{Part}
use Rattle.wp_text.specs.declared.reply.Reply.{Reply}
use Rattle.wp_text.specs.declared.reply.Reply.TheVariants as reply
use Rattle.wp_core.specs.Lists.{IsIn, one_if, total}
use Rattle.wp_core.specs.Sound.Pasts.{IsPast, closes_log, is_log_fault, is_tables_fault, times_past, past_of}
use Rattle.wp_core.specs.Views.{Event, log_failed, log_stopped, stopped, found_edit}
use Rattle.wp_core.specs.World.{Participant}
use Rattle.wp_parts.specs.Devices.{DevicesLeft}
use Rattle.wp_shared.specs.Ended.{IsEnded, of_seats}
use Rattle.wp_shared.specs.Ending.{AreAll}
use Rattle.wp_shared.specs.Seats.{SharedState, SeatState, participant_of}
use Rattle.wp_replies.specs.Exact.{IsExact}
use Rattle.wp_replies.specs.Explains.{Faults, dialogue, dialogues, all_replies, all_exchanges, AreFirstParts, AreSessions, Explains}
use Rattle.wp_replies.specs.Kind.{is_fault, is_stopped, is_halted}
use Rattle.wp_replies.specs.Kind as kinds
use Rattle.wp_replies.specs.Known.{StoredState, Dialogue, answers_in, is_stop, has_stop}
use Rattle.wp_client.specs.Alone.{limits_of}
use Rattle.wp_client.proofs.Alone.Published.{since}
use Rattle.wp_client.specs.Answers.{IsRemembered}
use Rattle.wp_client.specs.Holdings.{no_holdings, Holds}
use Rattle.wp_threads.specs.Explained.{is_log_stop, found_in, left_in, failed_in, faults_in, AreWholeParts, HaveRun}
use Rattle.wp_threads.specs.Over.{Answered, AreOver, replies_of}
use Rattle.wp_threads.proofs.Agreeing.{agrees}
use Rattle.wp_threads.proofs.Counted.{none_or_some, same_replies, weighed, acknowledged_as_owned, published_within, remembers}
use Rattle.wp_threads.proofs.Exact.{exact}
use Rattle.wp_threads.proofs.LastEdit.{last_edit}
use Rattle.wp_threads.proofs.Lists.{count_any, counted_in}
use Rattle.wp_threads.proofs.Stops.{firsts, stops_weighed, stop_said}

-- ---- what the seats hold

hold_nothing : {D : Type 0} (z : SharedState D) (found : StoredState) (parts : List Part) (answered : List Answered) (seats : List SeatState) → AreOver z found parts answered seats → (s : SeatState) → IsIn s seats → Holds z s no_holdings
hold_nothing z found [] [] [] over s there = absurd there
hold_nothing z found (p ∷ parts) (a ∷ answered) (t ∷ seats) over s (inl same) = subst (λ (x : SeatState). Holds z x no_holdings) same over.0.holds
hold_nothing z found (p ∷ parts) (a ∷ answered) (t ∷ seats) over s (inr there) = hold_nothing z found parts answered seats over.1 s there
hold_nothing z found _ _ _ over s there = absurd over

-- ---- the commands that ran

module _ {D : Type 0} (z : SharedState D) (found : StoredState) where
  pub are_first : (parts : List Part) (answered : List Answered) (seats : List SeatState) (over : AreOver z found parts answered seats) → AreFirstParts parts (firsts z found parts answered seats over)
  are_first [] [] [] over = tt
  are_first (p ∷ parts) (a ∷ answered) (s ∷ seats) over = ((refl, over.0.rest, over.0.commands), are_first parts answered seats over.1)
  are_first _ _ _ over = absurd over

  -- of a session that did not break off they are all
  pub all_ran : (parts : List Part) (answered : List Answered) (seats : List SeatState) (over : AreOver z found parts answered seats) → AreWholeParts parts (firsts z found parts answered seats over) answered
  all_ran [] [] [] over = tt
  all_ran (p ∷ parts) (a ∷ answered) (s ∷ seats) over = (
    (λ whole. let same : over.0.done ≡ p.commands = sym (append-nil over.0.done) ∙ (ap (λ (cs : List _). over.0.done ++ cs) (sym (over.0.all whole)) ∙ sym over.0.commands) in λ i. record { client = p.client; commands = same i }),
    all_ran parts answered seats over.1,
  )
  all_ran _ _ _ over = absurd over

-- ---- what closes the log

closes_either : (e : Event) → one_if (is_log_fault e) + one_if (is_log_stop e) ≡ one_if (closes_log e)
closes_either (log_failed entries) = refl
closes_either log_stopped = refl
closes_either other = refl

closes_past : (past : List Event) → total (λ e. one_if (is_log_fault e)) past + total (λ e. one_if (is_log_stop e)) past ≡ total (λ e. one_if (closes_log e)) past
closes_past [] = refl
closes_past (e ∷ past) = let first = closes_either e in let others = closes_past past in omega (arith, first, others)

closes_both : (pasts : List (List Event)) → times_past is_log_fault (pasts ∷ []) + times_past is_log_stop (pasts ∷ []) ≡ times_past closes_log (pasts ∷ [])
closes_both pasts = let all = each pasts in omega (arith, all)
  where
    each : (ps : List (List Event)) → total (total (λ e. one_if (is_log_fault e))) ps + total (total (λ e. one_if (is_log_stop e))) ps ≡ total (total (λ e. one_if (closes_log e))) ps
    each [] = refl
    each (p ∷ ps) = let first = closes_past p in let others = each ps in omega (arith, first, others)

is_the_stop : (e : Event) → is_log_stop e ≡ true → e ≡ log_stopped
is_the_stop log_stopped is = refl
is_the_stop other is = absurd cc

is_a_fault : (e : Event) → is_log_fault e ≡ true → (entries : List Entry) × (e ≡ log_failed entries)
is_a_fault (log_failed entries) is = (entries, refl)
is_a_fault other is = absurd cc

-- the past of this number has such an event
record HasSuch (such : Event → Bool) (ps : List (List Event)) : Type 0 where
  number : ℕ
  past : List Event
  there : get_elem? ps number ≡ some past
  event : Event
  within : IsIn event past
  is : such event ≡ true

-- where one was counted, one of the pasts has it
such_there : (such : Event → Bool) (ps : List (List Event)) → 1 ≤ total (total (λ e. one_if (such e))) ps → HasSuch such ps
such_there such [] some_there = absurd (omega (arith, some_there))
such_there such (p ∷ ps) some_there = elim (none_or_some (total (λ (e : Event). one_if (such e)) p)) [
  | inl none ↦ let k = such_there such ps (omega (arith, some_there, none)) in record { number = suc k.number; past = k.past; there = k.there; event = k.event; within = k.within; is = k.is }
  | inr here ↦ let k = counted_in such p here in record { number = 0; past = p; there = refl; event = k.0; within = k.1; is = k.2 }
]

-- ---- what replies remember

stopped_there : (past : List Event) (r : Reply) → is_stopped r ≡ true → IsRemembered past r → (n : ℕ) × IsIn (stopped n) past
stopped_there past (reply.Stopped n) is there = (n, there)
stopped_there past other is there = absurd cc

halted_there : (past : List Event) (r : Reply) → is_halted r ≡ true → IsRemembered past r → (n base tables due : ℕ) × IsIn (found_edit n base tables due true) past
halted_there past (reply.Halted n) is (base, tables, due, there) = (n, base, tables, due, there)
halted_there past other is there = absurd cc

one_at_least : (b : Bool) → b ≡ true → 1 ≤ one_if b
one_at_least b is = rw is (omega arith)

first_past : (seats : List SeatState) → AreAll seats → (past : List Event) × (get_elem? (map past_of (map participant_of seats)) 0 ≡ some past)
first_past [] all = absurd all
first_past (s ∷ seats) all = (s.knows.participant.past, refl)

exact_of : {D : Type 0} {z : SharedState D} {history : List Entry} {left : DevicesLeft} (parts : List Part) (answered : List Answered) (seats : List SeatState) (ended : IsEnded z seats history left) (over : AreOver z (found_in ended) parts answered seats) → AreAll seats
    → IsExact (limits_of z) (found_in ended) (left_in ended) (failed_in ended) (firsts z (found_in ended) parts answered seats over) (replies_of answered)
exact_of [] [] [] ended over all = tt
exact_of (p ∷ []) (a ∷ []) (s ∷ []) ended over all = exact ended p a over.0 all
exact_of (p ∷ q ∷ parts) (a ∷ b ∷ answered) (s ∷ t ∷ seats) ended over all = tt
exact_of (p ∷ parts) (a ∷ answered) (s ∷ seats) ended over all = absurd over.1
exact_of _ _ _ ended over all = absurd over

module _ {D : Type 0} {z : SharedState D} {seats : List SeatState} {history : List Entry} {left : DevicesLeft} (ended : IsEnded z seats history left) (parts : List Part) (answered : List Answered) (over : AreOver z (found_in ended) parts answered seats) where
  abbrev replies : List Reply
  replies = all_replies (replies_of answered)

  abbrev faults : Faults
  faults = faults_in ended

  abbrev ran : List (Command × Reply)
  ran = all_exchanges (firsts z (found_in ended) parts answered seats over) (replies_of answered)

  -- what closes the log is a fault of its device, or a renewal's stop
  both_close : faults.log + faults.renewals ≡ one_if ended.writes.closed
  both_close = let all = closes_both (map past_of (map participant_of seats)) in let met = ended.faults.log in omega (arith, all, met)

  log_counted : count_by is_fault replies ≡ faults.log
  log_counted = let all = weighed z (found_in ended) is_fault is_log_fault (λ p a s o. o.log_failed) parts answered seats over in omega (arith, all)

  stops_counted : count_by is_stop ran ≡ one_if ended.writes.closed
  stops_counted = let all = stops_weighed z (found_in ended) parts answered seats over in let met = ended.faults.log in omega (arith, all, met)

  -- where the log was closed, a client was answered so
  stopped_said : (ds : List Dialogue) → dialogues parts (replies_of answered) ≡ ds → ended.writes.closed ≡ true → list_any has_stop ds ≡ true
  stopped_said ds split up =
      let one = one_at_least ended.writes.closed up in
      subst (λ (xs : List Dialogue). list_any has_stop xs ≡ true) split (stop_said z (found_in ended) parts answered seats over (count_any is_stop ran (omega (arith, stops_counted, one))))

  tables_counted : count_by kinds.is_tables_fault replies ≡ one_if ended.edits.halted
  tables_counted =
      let all = weighed z (found_in ended) kinds.is_tables_fault is_tables_fault (λ p a s o. o.tables_failed) parts answered seats over in let met = ended.faults.tables in omega (arith, all, met)

  -- a fault that was met was answered
  fault_said : (is_such : Reply → Bool) (met : Bool) → count_by is_such replies ≡ one_if met → (ds : List Dialogue) → dialogues parts (replies_of answered) ≡ ds → met ≡ true → list_any is_such (answers_in ds) ≡ true
  fault_said is_such met counted ds split up =
      let one = one_at_least met up in
      subst (λ (xs : List Reply). list_any is_such xs ≡ true) (sym (same_replies z (found_in ended) parts answered seats over) ∙ ap answers_in split) (count_any is_such replies (omega (arith, counted, one)))

  sessions : (before : List Dialogue) (ps : List Part) (others : List Answered) (ss : List SeatState) (o : AreOver z (found_in ended) ps others ss) → dialogues parts (replies_of answered) ≡ before ++ dialogues ps (replies_of others)
      → ((i j : ℕ) (p : Participant) → j ≡ length before + i → get_elem? (map participant_of ss) i ≡ some p → get_elem? (map participant_of seats) j ≡ some p)
      → AreSessions (left_in ended) (limits_of z) (failed_in ended) (found_in ended) before ps (firsts z (found_in ended) ps others ss o) (replies_of others)
  sessions before [] [] [] o split at = tt
  sessions before (p ∷ ps) (a ∷ others) (s ∷ ss) o split at =
      let mine = dialogue p a.replies in
      let after = dialogues ps (replies_of others) in (
        o.0.session _ (agrees ended parts answered over before mine after split s.knows.participant (at 0 (length before) s.knows.participant (omega arith) refl)
            (stopped_said (before ++ mine ∷ after) split) (fault_said kinds.is_tables_fault ended.edits.halted tables_counted (before ++ mine ∷ after) split)),
        sessions (before ++ mine ∷ []) ps others ss o.1 (split ∙ sym (append_assoc before (mine ∷ []) after))
            (λ i j q same there. at (suc i) j q (let longer = length-append before (mine ∷ []) in omega (arith, same, longer)) there),
      )
  sessions before _ _ _ o split at = absurd o

  pub explains : AreAll seats → Explains (limits_of z) (faults_in ended) parts (firsts z (found_in ended) parts answered seats over) (found_in ended) (left_in ended) (failed_in ended) (replies_of answered)
  explains all = record {
    legal = ended.legal;
    begins = ended.grown;
    answered = sessions [] parts answered seats over refl (λ i j p same there. subst (λ (k : ℕ). get_elem? (map participant_of seats) k ≡ some p) (let e : i ≡ j = omega (arith, same) in e) there);
    paired = λ n low high.
        let each = acknowledged_as_owned z (found_in ended) n parts answered seats over in let owned = ended.owned n in let once = since z.opened history n low high in omega (arith, each, owned, once);
    log_failed = log_counted;
    log_stopped = stops_counted ∙ sym both_close;
    stopped = λ said.
        let k = remembers z (found_in ended) is_stopped parts answered seats over said in let n = stopped_there k.past k.answer k.is k.remembered in
        let one = one_at_least ended.writes.closed (ended.faults.stopped n.0 (0, k.place, (k.past, (map past_of (map participant_of seats), refl, k.there), n.1))).0 in omega (arith, one, both_close);
    tables_failed = tables_counted;
    halted = λ said.
        let k = remembers z (found_in ended) is_halted parts answered seats over said in let n = halted_there k.past k.answer k.is k.remembered in
        one_at_least ended.edits.halted (ended.installed.found_halted n.0 n.1 n.2 n.3 (0, k.place, (k.past, (map past_of (map participant_of seats), refl, k.there), n.4))).0;
    edit = let first = first_past seats all in last_edit ended parts answered over first.0 first.1;
  }

  past_there : {such : Event → Bool} (k : HasSuch such (map past_of (map participant_of seats))) → IsPast (of_seats past_of seats) k.event
  past_there k = (0, k.number, (k.past, (map past_of (map participant_of seats), refl, k.there), k.within))

  stops_behind : 1 ≤ faults.renewals → (ended.edits.halted ≡ true) × (ended.writes.stopped ≡ true) × (ended.writes.failed ≡ [])
  stops_behind stop =
      let k = such_there is_log_stop (map past_of (map participant_of seats)) (omega (arith, stop)) in
      let there : IsPast (of_seats past_of seats) log_stopped = subst (IsPast (of_seats past_of seats)) (is_the_stop k.event k.is) (past_there k) in (ended.faults.behind there, (ended.faults.unfailed there).1, (ended.faults.unfailed there).2)

  fails_by_device : 1 ≤ faults.log → (ended.writes.closed ≡ true) × (ended.writes.stopped ≡ false)
  fails_by_device fault =
      let k = such_there is_log_fault (map past_of (map participant_of seats)) (omega (arith, fault)) in
      let e = is_a_fault k.event k.is in
      let there : IsPast (of_seats past_of seats) (log_failed e.0) = subst (IsPast (of_seats past_of seats)) e.1 (past_there k) in ((ended.faults.failed e.0 there).0, ended.faults.of_log e.0 there)

  new_within : (n : ℕ) → length z.opened < n → n ≤ length history → n ≤ z.limit
  new_within n low high = let owned = ended.owned n in let once = since z.opened history n low high in published_within z (found_in ended) n parts answered seats over (omega (arith, owned, once))

  -- the sessions of a script, all of whose seats were handed in
  pub have_run : AreAll seats → HaveRun z parts answered history left
  have_run all = record {
    seats = seats;
    ended = ended;
    empty = hold_nothing z (found_in ended) parts answered seats over;
    run = firsts z (found_in ended) parts answered seats over;
    first = are_first z (found_in ended) parts answered seats over;
    whole = all_ran z (found_in ended) parts answered seats over;
    explained = explains all;
    within = new_within;
    closed = both_close;
    by_device = fails_by_device;
    behind = stops_behind;
    exact = exact_of parts answered seats ended over all;
  }
