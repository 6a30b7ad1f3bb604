-- The end of a session.
use Rattle.std.proofs.Common.{◌≡◌, ⊎_elim, inl, inr, ℕ, ◌≤◌, Bool, true, false, true≢false, List, [], ◌∷◌, ◌++◌, length, Some, None, refl, sym, subst, ap, ◌∙◌, arith}
use Rattle.std.specs.Prelude.{IfSome}
use mathlib.Core.List.{append-nil}
use Rattle.wp_model.specs.declared.entry.Entry.{Entry}
use Rattle.wp_model.specs.Flushed.{InstalledEdit}
use Rattle.wp_text.specs.declared.script.Command.{Command}
use Rattle.wp_text.specs.declared.script.Part.{Part}
use Rattle.wp_core.specs.Lists.{IsIn, one_if, total}
use Rattle.wp_core.specs.Sound.Actors.{StartsWith}
use Rattle.wp_core.specs.Sound.Pasts.{closes_log, is_log_fault, is_tables_fault, is_install, last_after, last_installed}
use Rattle.wp_core.specs.Views.{Event, installed, renewed, log_failed, log_stopped, tables_failed}
use Rattle.wp_core.proofs.KeepsSeen.{whole}
use Rattle.wp_core.proofs.PastsGrow.{in_front}
use Rattle.wp_shared.specs.Seats.{SharedState, SeatState}
use Rattle.wp_replies.specs.Txn.{Txn}
use Rattle.wp_replies.specs.Client.{Client, new_client}
use Rattle.wp_replies.specs.Known.{StoredState, known_at_first, comes_to}
use Rattle.wp_replies.specs.Session.{IsSession}
use Rattle.wp_client.specs.Answers.{explaining, IsExplained, BreaksOff}
use Rattle.wp_client.specs.Holdings.{HoldingsState, no_holdings, client_of, Holds}
use Rattle.wp_client.proofs.Growing.{agrees_before}
use Rattle.wp_client.proofs.Released.{stays_through}
use Rattle.wp_threads.specs.SoFar.{IsSessionSoFar, RanAlone}
use Rattle.wp_client.specs.Ends.{LetsGo}
use Rattle.wp_threads.specs.Came.{HasComeTo}
use Rattle.wp_threads.specs.Over.{Answered, BreaksOffBefore, EndsAlone, IsOver}
use Rattle.wp_threads.proofs.Alike.{explained_alike, if_some_map}
use Rattle.wp_threads.proofs.Coming.{Such}
use Rattle.wp_threads.proofs.LastEdit.{none_installed}
use Rattle.wp_client.proofs.Alone.Published.{in_both, total_both}
use Rattle.wp_threads.proofs.Onward.{only_before, remembered_wider}

-- ---- how it ends

-- with no command more
pub ends_here : (s : SeatState) (txn : Txn) (rest : List Command) → BreaksOffBefore s s txn rest
ends_here s txn rest = record {
  stays = record { same_by = refl; made = refl; joined = refl; client = refl; seen = whole s.knows.participant.seen };
  own = refl;
  events = [];
  past = sym (append-nil s.knows.participant.past);
  explained = λ event there. absurd there;
  log_failed = refl;
  log_stopped = refl;
  tables_failed = refl;
}

-- memory was wanting for the command
pub ends_broken : (s t : SeatState) (was : Client) (c : Command) (others : List Command) → BreaksOff s t was c → BreaksOffBefore s t was.txn (c ∷ others)
ends_broken s t was c others broke = record {
  stays = broke.stays;
  own = broke.own;
  events = broke.events;
  past = broke.past;
  explained = λ event there. (c, others, refl, broke.explained event there);
  log_failed = broke.log_failed;
  log_stopped = broke.log_stopped;
  tables_failed = broke.tables_failed;
}

-- and then the client lets go of what it has
pub ends_then : {D : Type 0} (z : SharedState D) (s t u : SeatState) (txn : Txn) (rest : List Command) (was now : HoldingsState) → BreaksOffBefore s t txn rest → LetsGo z t u was now → BreaksOffBefore s u txn rest
ends_then z s t u txn rest was now ends goes = record {
  stays = stays_through s t u ends.stays goes.stays;
  own = goes.own ∙ ends.own;
  events = ends.events;
  past = goes.past ∙ ends.past;
  explained = ends.explained;
  log_failed = ends.log_failed;
  log_stopped = ends.log_stopped;
  tables_failed = ends.tables_failed;
}

-- ---- what it leaves

-- events among which none is counted
not_counted : (test : Event → Bool) (events : List Event) (event : Event) → total (λ e. one_if (test e)) events ≡ 0 → IsIn event events → test event ≡ true → ⊥
not_counted test [] event none there is = there
not_counted test (e ∷ events) event none (inl same) is =
    let one : ◌≡◌ {A = ℕ} (one_if (test e)) 1 = ap (λ (x : Event). one_if (test x)) same ∙ rw is refl in absurd (omega (arith, none, one))
not_counted test (e ∷ events) event none (inr there) is = not_counted test events event (omega (arith, none)) there is

last_still : (first : InstalledEdit) (past events : List Event) → ((e : Event) → is_install e ≡ true → IsIn e events → ⊥) → last_installed first (past ++ events) ≡ last_installed first past
last_still first [] events none = none_installed first events none
last_still first (e ∷ past) events none = last_still (last_after first e) past events none

module _ {D : Type 0} (z : SharedState D) (found : StoredState) (part : Part) (answered : Answered) (done rest : List Command) (s u : SeatState) (h : HoldingsState) (g : IsSessionSoFar z found part.client done answered.replies s h) (ends : BreaksOffBefore s u (client_of h).txn rest) where
  counted_still : (test : Event → Bool) → total (λ e. one_if (test e)) ends.events ≡ 0 → total (λ e. one_if (test e)) s.knows.participant.past ≡ total (λ e. one_if (test e)) u.knows.participant.past
  counted_still test none =
      let all = total_both (λ (e : Event). one_if (test e)) s.knows.participant.past ends.events in
      let same : total (λ e. one_if (test e)) u.knows.participant.past ≡ total (λ e. one_if (test e)) (s.knows.participant.past ++ ends.events) = ap (total (λ (e : Event). one_if (test e))) ends.past in omega (arith, all, same, none)

  explained_rest : part.commands ≡ done ++ rest → (event : Event) → IsIn event u.knows.participant.past → IfSome (explaining part.client event) (λ is_such. comes_to is_such new_client part.commands answered.replies ≡ true)
  explained_rest commands event there = ⊎_elim
      (λ (k : IsIn event s.knows.participant.past). if_some_map (explaining part.client event)
      (λ (is_such : Such). (cs : List Command) (rs : _) → comes_to is_such new_client (done ++ cs) (answered.replies ++ rs) ≡ true)
      (λ (is_such : Such). comes_to is_such new_client part.commands answered.replies ≡ true)
      (λ is_such f. in_all is_such (f rest [])) (g.explained.explained event k))
      (λ (k : IsIn event ends.events).
      let e = ends.explained event k in
      if_some_map (explaining part.client event)
      (λ (is_such : Such). is_such g.explained.alike.txn e.0 None ≡ true)
      (λ (is_such : Such). comes_to is_such new_client part.commands answered.replies ≡ true)
      (λ is_such is. in_all is_such (subst (λ (cs : List Command). comes_to is_such new_client (done ++ cs) (answered.replies ++ []) ≡ true) (sym e.2) (g.explained.goes_on is_such (e.0 ∷ e.1) [] is)))
      (explained_alike part.client e.0 None event g.explained.alike.txn (client_of h).txn g.explained.is_alike (subst (λ (n : List ℕ). IsExplained n (client_of h).txn e.0 None event) g.client e.3)))
      (in_both event s.knows.participant.past ends.events (subst (IsIn event) ends.past there))
    where
      in_all : (is_such : Such) → comes_to is_such new_client (done ++ rest) (answered.replies ++ []) ≡ true → comes_to is_such new_client part.commands answered.replies ≡ true
      in_all is_such is = subst (λ (x : List Command × List _). comes_to is_such new_client x.0 x.1 ≡ true) (λ i. (sym commands i, append-nil answered.replies i)) is

  installs_none : (e : Event) → is_install e ≡ true → IsIn e ends.events → ⊥
  installs_none (installed edit false) is there = true≢false (sym (ends.explained (installed edit false) there).3)
  installs_none (installed edit true) is there = true≢false (sym (ends.explained (installed edit true) there).3)
  installs_none (renewed edit) is there = true≢false (sym (ends.explained (renewed edit) there).3)
  installs_none other is there = absurd cc

  ends_alone : RanAlone z found done answered.replies s (client_of h) → EndsAlone z found done answered.replies u.knows.participant
  ends_alone ran = record {
    places = ran.places;
    store = ran.store;
    client = client_of h;
    ran = ran.ran;
    history = subst (StartsWith u.knows.participant.seen) (sym ran.store_is.history) ends.stays.seen;
    own = λ n there. subst (λ (k : List Entry). n ≤ length k) (sym ran.store_is.history) (ran.store_is.own n (subst (IsIn n) ends.own there));
    stopped = ran.store_is.stopped ∙ counted_still closes_log ends.log_stopped;
    installed = ran.store_is.installed ∙ (sym (last_still found.edit s.knows.participant.past ends.events installs_none) ∙ ap (last_installed found.edit) (sym ends.past));
    halted = ran.store_is.halted ∙ counted_still is_tables_fault ends.tables_failed;
    asked = λ entries there. ⊎_elim (ran.asked entries) (λ (k : IsIn (log_failed entries) ends.events). absurd (not_counted closes_log ends.events (log_failed entries) ends.log_stopped k refl))
        (in_both (log_failed entries) s.knows.participant.past ends.events (subst (IsIn (log_failed entries)) ends.past there));
    asked_none = λ there. ⊎_elim ran.asked_none (λ (k : IsIn log_stopped ends.events). absurd (not_counted closes_log ends.events log_stopped ends.log_stopped k refl))
        (in_both log_stopped s.knows.participant.past ends.events (subst (IsIn log_stopped) ends.past there));
    asked_edit = λ last edit there. ⊎_elim (ran.asked_edit last edit) (λ (k : IsIn (tables_failed last (Some edit)) ends.events). absurd (not_counted is_tables_fault ends.events (tables_failed last (Some edit)) ends.tables_failed k refl))
        (in_both (tables_failed last (Some edit)) s.knows.participant.past ends.events (subst (IsIn (tables_failed last (Some edit))) ends.past there));
  }

  pub over : Holds z u no_holdings → part.commands ≡ done ++ rest → (answered.whole ≡ true → rest ≡ []) → IsOver z found part answered u
  over holds commands all = record {
    holds = holds;
    client = ends.stays.client ∙ g.client;
    own = ends.own ∙ g.own;
    within = λ n there. g.within n (subst (IsIn n) ends.own there);
    done = done;
    rest = rest;
    commands = commands;
    all = all;
    session = λ e agrees. subst (λ (x : List Command × List _). IsSession e (known_at_first found) new_client x.0 x.1) (λ i. (append-nil done i, append-nil answered.replies i))
        (g.session.goes_on e (agrees_before z e s.knows.participant u.knows.participant ends.events ends.stays.seen ends.past agrees) [] [] tt);
    explained = explained_rest commands;
    log_failed = g.log_failed ∙ counted_still is_log_fault ends.log_failed;
    log_stopped = g.log_stopped ∙ counted_still closes_log ends.log_stopped;
    tables_failed = g.tables_failed ∙ counted_still is_tables_fault ends.tables_failed;
    remembered = λ answer there. remembered_wider s.knows.participant.past u.knows.participant.past answer (λ e x. subst (IsIn e) (sym ends.past) (in_front e s.knows.participant.past ends.events x)) (g.remembered answer there);
    alone = λ only. ends_alone (g.alone (only_before s u ends.stays only));
  }

-- a session that came so far is over, once the client has let go
pub came_over : {D : Type 0} (z : SharedState D) (found : StoredState) (part : Part) (answered : Answered) (t u : SeatState) (h : HoldingsState) → HasComeTo z found part.client part.commands answered t h → LetsGo z t u h no_holdings → IsOver z found part answered u
came_over z found part answered t u h came goes =
    over z found part answered came.done came.rest came.last u came.had came.goes (ends_then z came.last t u (client_of came.had).txn came.rest h no_holdings came.ends goes) (goes.holds came.holds) came.commands came.all
