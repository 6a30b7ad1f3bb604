-- A session with one reply more.
use Rattle.std.proofs.Common.{◌≡◌, ◌⊎◌, ⊎_elim, inl, inr, ℕ, ◌+◌, Bool, true, cond, List, [], ◌∷◌, ◌++◌, length, length-append, Some, refl, sym, subst, ap, ◌∙◌, append_assoc, arith}
use Rattle.std.proofs.lemmas.Bool.{or_left, or_right}
use Rattle.std.specs.Prelude.{count_by}
use Rattle.std.specs.List.{flat_map}
use Rattle.std.proofs.lemmas.List.Concat.{flat_map-cons, flat_map-append}
use Rattle.std.proofs.lemmas.List.Sums.{sum_by-cons}
use mathlib.Core.List.{append-nil}
use Rattle.wp_text.specs.declared.script.Command.{Command}
use Rattle.wp_text.specs.declared.reply.Reply.{Reply}
use Rattle.wp_text.specs.declared.reply.Reply.TheVariants as reply
use Rattle.wp_core.specs.Lists.{IsIn, one_if, total}
use Rattle.wp_core.specs.Sound.Pasts.{closes_log, is_log_fault, is_tables_fault}
use Rattle.wp_core.specs.Views.{Event, log_failed, log_stopped, tables_failed}
use Rattle.wp_core.specs.World.{Participant}
use Rattle.wp_core.proofs.PastsGrow.{in_front}
use Rattle.wp_shared.specs.Seats.{SharedState, SeatState}
use Rattle.wp_replies.specs.Asked.{AsksLog, AsksTables}
use Rattle.wp_replies.specs.Client.{Client, new_client}
use Rattle.wp_replies.specs.After.{after_reply}
use Rattle.wp_replies.specs.Current.{opened_store, RunsAlone}
use Rattle.wp_replies.specs.Due.{Store, store_after}
use Rattle.wp_replies.specs.Kind.{acknowledged, is_fault, stops_log}
use Rattle.wp_replies.specs.Kind as kinds
use Rattle.wp_replies.specs.Known.{StoredState, known_at_first, comes_to, exchanges, is_stop}
use Rattle.wp_replies.specs.Progress.{progress_after}
use Rattle.wp_replies.specs.Session.{IsSession}
use Rattle.wp_client.specs.Alone.{limits_of, IsOnly, IsStoreOf, AreLockedIn, AnswersAlone}
use Rattle.wp_client.specs.Answers.{explaining, IsExplained, IsRemembered, Stays, Answers}
use Rattle.wp_client.specs.Holdings.{HoldingsState, client_of, Holds}
use Rattle.wp_client.proofs.Growing.{agrees_before, in_back}
use Rattle.wp_threads.specs.SoFar.{IsFound, IsAlike, IsSessionTo, IsExplainedTo, RanAlone, IsSessionSoFar}
use Rattle.wp_threads.proofs.Alike.{after_alike, explained_alike, if_some_map}
use Rattle.wp_threads.proofs.Alone.{runs_more, asks_front, asks_last}
use Rattle.wp_threads.proofs.Coming.{Such}
use Rattle.wp_client.proofs.Alone.Published.{in_both, total_both}
use Rattle.wp_threads.proofs.Lists.{count_append}

-- who was alone is so still
pub only_before : (s t : SeatState) → Stays s t → IsOnly t → IsOnly s
only_before s t stays only = record { by = sym stays.same_by ∙ only.by; made = sym stays.made ∙ only.made; joined = sym stays.joined ∙ only.joined }

-- what is remembered is remembered in a longer past
pub remembered_wider : (xs ys : List Event) (r : Reply) → ((e : Event) → IsIn e xs → IsIn e ys) → IsRemembered xs r → IsRemembered ys r
remembered_wider xs ys (reply.Stopped n) f there = f _ there
remembered_wider xs ys (reply.Flushed n versions) f (edit, same, there) = (edit, same, f _ there)
remembered_wider xs ys (reply.Halted flushed) f (base, tables, due, there) = (base, tables, due, f _ there)
remembered_wider xs ys (reply.Renewed n carried) f (edit, based, same, there) = (edit, based, same, f _ there)
remembered_wider xs ys other f k = tt

count_one : {X : Type 0} (p : X → Bool) (r : X) → count_by p (r ∷ []) ≡ one_if (p r)
count_one p r = let whole : count_by p (r ∷ []) ≡ cond (p r) 1 0 + count_by p [] = sum_by-cons (λ x. cond (p x) 1 0) r [] in let none : count_by p [] ≡ 0 = refl in
    let same : ◌≡◌ {A = ℕ} (cond (p r) 1 0) (one_if (p r)) = refl in omega (arith, whole, none, same)

-- as many replies tell a fault as were met
pub counted_more : {X : Type 0} (p : X → Bool) (test : Event → Bool) (answers : List X) (past events after : List Event) (r : X) → after ≡ past ++ events → count_by p answers ≡ total (λ e. one_if (test e)) past → total (λ e. one_if (test e)) events ≡ one_if (p r)
    → count_by p (answers ++ r ∷ []) ≡ total (λ e. one_if (test e)) after
counted_more p test answers past events after r is before now =
    let sum = count_append p answers (r ∷ []) in let one = count_one p r in let all = total_both (λ (e : Event). one_if (test e)) past events in
    sum ∙ (ap (λ (n : ℕ). n + count_by p (r ∷ [])) before ∙ (ap (λ (n : ℕ). total (λ e. one_if (test e)) past + n) (one ∙ sym now) ∙ (sym all ∙ ap (total (λ (e : Event). one_if (test e))) (sym is))))

-- one command more with its reply
exchanges_more : (done : List Command) (answers : List Reply) (c : Command) (r : Reply) → length answers ≡ length done → exchanges (done ++ c ∷ []) (answers ++ r ∷ []) ≡ exchanges done answers ++ (c, r) ∷ []
exchanges_more [] [] c r same = refl
exchanges_more [] (a ∷ answers) c r same = absurd (omega (arith, same))
exchanges_more (d ∷ done) [] c r same = absurd (omega (arith, same))
exchanges_more (d ∷ done) (a ∷ answers) c r same = ap (λ (xs : List (Command × Reply)). (d, a) ∷ xs) (exchanges_more done answers c r (omega (arith, same)))

module _ {D : Type 0} (z : SharedState D) (found : StoredState) (is_found : IsFound z found) (name : List ℕ) (done : List Command) (answers : List Reply) (c : Command) (r : Reply) (s t : SeatState) (was now : Client) (a : Answers z s t was now c r) where
  abbrev before : Participant
  before = s.knows.participant

  abbrev after : Participant
  after = t.knows.participant

  regroup : (P : List Command → List Reply → Type 0) (commands : List Command) (others : List Reply) → P (done ++ c ∷ commands) (answers ++ r ∷ others) → P ((done ++ c ∷ []) ++ commands) ((answers ++ r ∷ []) ++ others)
  regroup P commands others is = subst (λ (x : List Command × List Reply). P x.0 x.1) (λ i. (sym (append_assoc done (c ∷ []) commands) i, sym (append_assoc answers (r ∷ []) others) i)) is

  session_more : IsSessionTo z found done answers s was → IsSessionTo z found (done ++ c ∷ []) (answers ++ r ∷ []) t now
  session_more so = record {
    progress = progress_after so.progress c r;
    is_progress = a.progress found.edit is_found.edit so.progress so.is_progress;
    goes_on = λ e agrees commands others rest.
        regroup (λ cs rs. IsSession e (known_at_first found) new_client cs rs) commands others
        (so.goes_on e (agrees_before z e before after a.events a.stays.seen a.past agrees) (c ∷ commands) (r ∷ others) (
          a.number,
          a.allowed found.edit is_found.edit so.progress so.is_progress e agrees,
          subst (λ (x : Client). IsSession e (progress_after so.progress c r) x commands others) a.after rest,
        ));
  }

  explained_more : before.client ≡ name → IsExplainedTo name done answers before.past was → IsExplainedTo name (done ++ c ∷ []) (answers ++ r ∷ []) after.past now
  explained_more client so = record {
    alike = after_reply 0 so.alike c r;
    is_alike = subst (λ (x : Client). IsAlike (after_reply 0 so.alike c r).txn x.txn) (sym a.after) (after_alike 0 a.number so.alike was c r so.is_alike);
    goes_on = λ is_such commands others comes. on is_such commands others (or_right (is_such so.alike.txn c (Some r)) (comes_to is_such (after_reply 0 so.alike c r) commands others) comes);
    explained = λ event there. ⊎_elim
        (λ (k : IsIn event before.past). if_some_map (explaining name event)
        (λ (is_such : Such). (commands : List Command) (others : List Reply) → comes_to is_such new_client (done ++ commands) (answers ++ others) ≡ true)
        (λ (is_such : Such). (commands : List Command) (others : List Reply) → comes_to is_such new_client ((done ++ c ∷ []) ++ commands) ((answers ++ r ∷ []) ++ others) ≡ true)
        (λ is_such f commands others. regroup (λ cs rs. comes_to is_such new_client cs rs ≡ true) commands others (f (c ∷ commands) (r ∷ others))) (so.explained event k))
        (λ (k : IsIn event a.events). if_some_map (explaining name event)
        (λ (is_such : Such). is_such so.alike.txn c (Some r) ≡ true)
        (λ (is_such : Such). (commands : List Command) (others : List Reply) → comes_to is_such new_client ((done ++ c ∷ []) ++ commands) ((answers ++ r ∷ []) ++ others) ≡ true)
        (λ is_such is commands others. on is_such commands others (or_left (is_such so.alike.txn c (Some r)) (comes_to is_such (after_reply 0 so.alike c r) commands others) is))
        (explained_alike name c (Some r) event so.alike.txn was.txn so.is_alike (subst (λ (n : List ℕ). IsExplained n was.txn c (Some r) event) client (a.explained event k))))
        (in_both event before.past a.events (subst (IsIn event) a.past there));
  }
    where
      on : (is_such : Such) (commands : List Command) (others : List Reply) → comes_to is_such so.alike (c ∷ commands) (r ∷ others) ≡ true → comes_to is_such new_client ((done ++ c ∷ []) ++ commands) ((answers ++ r ∷ []) ++ others) ≡ true
      on is_such commands others is = regroup (λ cs rs. comes_to is_such new_client cs rs ≡ true) commands others (so.goes_on is_such (c ∷ commands) (r ∷ others) is)

  alone_more : (ran : RanAlone z found done answers s was) → AnswersAlone z found.edit s t was now c r ran.store → RanAlone z found (done ++ c ∷ []) (answers ++ r ∷ []) t now
  alone_more ran did = record {
    places = ran.places ++ did.place ∷ [];
    store = store_after did.place ran.store was c r;
    store_is = did.store_is;
    locked = did.locked ran.locked;
    ran = subst (RunsAlone (ran.places ++ did.place ∷ []) (opened_store (limits_of z) found) new_client (done ++ c ∷ []) (answers ++ r ∷ []) (store_after did.place ran.store was c r)) (sym did.client)
        (runs_more did.place ran.places (opened_store (limits_of z) found) new_client done answers ran.store was c r ran.ran did.replied);
    asked = λ entries there. ⊎_elim
        (λ (k : IsIn (log_failed entries) before.past). asks_front stops_log (AsksLog entries) ran.places (did.place ∷ []) (opened_store (limits_of z) found) new_client done (c ∷ []) answers (r ∷ []) (ran.asked entries k))
        (λ (k : IsIn (log_failed entries) did.events). let b = did.asked entries k in asks_last stops_log (AsksLog entries) did.place ran.places (opened_store (limits_of z) found) new_client done answers ran.store was c r ran.ran b.0 b.1)
        (in_both (log_failed entries) before.past did.events (subst (IsIn (log_failed entries)) did.past there));
    asked_none = λ there. ⊎_elim
        (λ (k : IsIn log_stopped before.past). asks_front stops_log (AsksLog []) ran.places (did.place ∷ []) (opened_store (limits_of z) found) new_client done (c ∷ []) answers (r ∷ []) (ran.asked_none k))
        (λ (k : IsIn log_stopped did.events). let b = did.asked_none k in asks_last stops_log (AsksLog []) did.place ran.places (opened_store (limits_of z) found) new_client done answers ran.store was c r ran.ran b.0 b.1)
        (in_both log_stopped before.past did.events (subst (IsIn log_stopped) did.past there));
    asked_edit = λ last edit there. ⊎_elim
        (λ (k : IsIn (tables_failed last (Some edit)) before.past). asks_front (λ command answer. kinds.is_tables_fault answer) (AsksTables edit) ran.places (did.place ∷ []) (opened_store (limits_of z) found) new_client done (c ∷ []) answers (r ∷ []) (ran.asked_edit last edit k))
        (λ (k : IsIn (tables_failed last (Some edit)) did.events). let b = did.asked_edit last edit k in asks_last (λ command answer. kinds.is_tables_fault answer) (AsksTables edit) did.place ran.places (opened_store (limits_of z) found) new_client done answers ran.store was c r ran.ran b.0 b.1)
        (in_both (tables_failed last (Some edit)) before.past did.events (subst (IsIn (tables_failed last (Some edit))) did.past there));
  }

-- one more reply keeps what goes
pub goes_more : {D : Type 0} (z : SharedState D) (found : StoredState) (is_found : IsFound z found) (name : List ℕ) (done : List Command) (answers : List Reply) (c : Command) (r : Reply) (s t : SeatState) (h k : HoldingsState) → IsSessionSoFar z found name done answers s h → Answers z s t (client_of h) (client_of k) c r → Holds z t k
    → (IsOnly s → (store : Store) → IsStoreOf z found.edit s.knows.participant store → AreLockedIn z s (client_of h).txn store → AnswersAlone z found.edit s t (client_of h) (client_of k) c r store)
    → IsSessionSoFar z found name (done ++ c ∷ []) (answers ++ r ∷ []) t k
goes_more z found is_found name done answers c r s t h k g a holds alone = record {
  holds = holds;
  client = a.stays.client ∙ g.client;
  each = let replies = length-append answers (r ∷ []) in let commands = length-append done (c ∷ []) in let same = g.each in omega (arith, replies, commands, same);
  own = a.own ∙ (ap (λ (ns : List ℕ). ns ++ acknowledged r) g.own ∙ sym (flat_map-append acknowledged answers (r ∷ []) ∙ ap (λ (ns : List ℕ). flat_map acknowledged answers ++ ns) (flat_map-cons acknowledged r [] ∙ append-nil (acknowledged r))));
  within = λ n there. ⊎_elim (g.within n) (a.within n) (in_both n s.knows.participant.own (acknowledged r) (subst (IsIn n) a.own there));
  session = session_more z found is_found name done answers c r s t (client_of h) (client_of k) a g.session;
  explained = explained_more z found is_found name done answers c r s t (client_of h) (client_of k) a g.client g.explained;
  log_failed = counted_more is_fault is_log_fault answers s.knows.participant.past a.events t.knows.participant.past r a.past g.log_failed a.log_failed;
  log_stopped = ap (count_by is_stop) (exchanges_more done answers c r g.each) ∙ counted_more is_stop closes_log (exchanges done answers) s.knows.participant.past a.events t.knows.participant.past (c, r) a.past g.log_stopped a.log_stopped;
  tables_failed = counted_more kinds.is_tables_fault is_tables_fault answers s.knows.participant.past a.events t.knows.participant.past r a.past g.tables_failed a.tables_failed;
  remembered = λ answer there. ⊎_elim
      (λ (i : IsIn answer answers). remembered_wider s.knows.participant.past t.knows.participant.past answer (λ e x. subst (IsIn e) (sym a.past) (in_front e s.knows.participant.past a.events x)) (g.remembered answer i))
      (λ (i : IsIn answer (r ∷ [])). of_the_last answer i)
      (in_both answer answers (r ∷ []) there);
  alone = λ only. let ran = g.alone (only_before s t a.stays only) in alone_more z found is_found name done answers c r s t (client_of h) (client_of k) a ran (alone (only_before s t a.stays only) ran.store ran.store_is ran.locked);
}
  where
    of_the_last : (answer : Reply) → IsIn answer (r ∷ []) → IsRemembered t.knows.participant.past answer
    of_the_last answer (inl same) = subst (IsRemembered t.knows.participant.past) same (remembered_wider a.events t.knows.participant.past r (λ e x. subst (IsIn e) (sym a.past) (in_back e s.knows.participant.past a.events x)) a.remembered)
    of_the_last answer (inr none) = absurd none
