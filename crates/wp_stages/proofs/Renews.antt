-- The steps of a renewal, as the seat knows them that holds both turns.
use Rattle.std.proofs.Common.{◌≡◌, ◌≢◌, inr, ℕ, ◌<◌, true, false, true≢false, List, [], ◌∷◌, ◌++◌, append-nil, length, Option, Some, None, IfSome, unwrap_or, refl, sym, ap, ◌∙◌}
use Rattle.wp_core.specs.Changes.{held_with}
use Rattle.wp_core.specs.Effects.{with_failed}
use Rattle.wp_core.specs.Lists.{IsIn}
use Rattle.wp_core.specs.Notes.{ends}
use Rattle.wp_core.specs.Sound.History.{IsHistory, logged_part}
use Rattle.wp_core.specs.Steps.{find_log_closed, write_segment, close_log, renew, use_segment, halt, stop_log}
use Rattle.wp_core.specs.States.{Content, WriteState, Installed, writes, installed}
use Rattle.wp_core.specs.Views.{Fact, nothing_flushed, log_failed, log_stopped, renewed, stopped, tables_failed}
use Rattle.wp_core.specs.World.{Actor, World}
use Rattle.wp_core.proofs.PendingSteps.{none_logged}
use Rattle.wp_model.specs.declared.entry.Entry.{Entry}
use Rattle.wp_model.specs.declared.segment.Segment.{Segment}
use Rattle.wp_model.specs.Flushed.{InstalledEdit, IsEditCovered}
use Rattle.wp_model.specs.Legal.{undone_last}
use Rattle.wp_rule.specs.Knows.{KnowsRenewed, NextNamed}
use Rattle.wp_rule.proofs.MayBeMade.{known_made}
use Rattle.wp_rule.specs.Moves.{MayMake, Moved, actor_after}
use Rattle.wp_rule.specs.Words.{Place, IsAt}
use Rattle.wp_parts.specs.Log.{with_next, with_segment}
use Rattle.wp_shared.specs.Calls.{with_events}
use Rattle.wp_shared.specs.Notes.{no_fact, with_participant, GoesOn}
use Rattle.wp_shared.specs.Seats.{SeatState}
use Rattle.wp_maint.specs.Holding.{is_of_flushed}
use Rattle.wp_rule.proofs.Forgets.{EndsNothing}
use Rattle.wp_shared.proofs.OneStep.{made, becomes}
use Rattle.wp_shared.proofs.Tables.{held_state}
use Rattle.wp_maint.proofs.Found.{failed_last}
use Rattle.wp_maint.proofs.Made.{first_held, goes_from, second_held}

-- ---- before the first call

-- with nothing pending the history ends with no undo
pub whole_now : (opened : List Entry) (t : WriteState) (max : ℕ) → IsHistory opened t max → t.pending ≡ [] → undone_last t.history ≡ None
whole_now opened t max k nothing = of (undone_last t.history) refl
  where
    of : (o : Option ℕ) → undone_last t.history ≡ o → undone_last t.history ≡ None
    of None is = is
    of (Some p) is = let closes = (k.undo_closes p is).0 in let none = sym closes ∙ nothing in absurd cc

-- ... and the log spells it
pub log_now : (opened : List Entry) (t : WriteState) (max : ℕ) → IsHistory opened t max → t.pending ≡ [] → t.log ≡ t.history
log_now opened t max k nothing = k.log ∙ (ap (λ (xs : List Entry). t.history ++ xs) (ap (logged_part t.logged) nothing ∙ none_logged t.logged) ∙ append-nil t.history)

-- ---- the steps

-- the seat has both states
module _ (p : Place) (a : Actor) (d : WriteState) (t : Installed) (held : a.held ≡ writes d ∷ installed t ∷ []) where
  log_held : IsIn (writes d) a.held
  log_held = first_held a (writes d) (installed t ∷ []) held

  tables_held : IsIn (installed t) a.held
  tables_held = second_held a (writes d) (installed t) held

  pub may_write : (place : ℕ) → d.pending ≡ [] → d.closed ≡ false → d.next ≡ None → place ≢ d.segment.place → MayMake p a (λ w. write_segment place ∷ [])
  may_write place nothing open_ none apart = known_made p a (write_segment place) tt (record { state = d; held = log_held; so_is = (nothing, open_, none, apart) })

  pub may_close : d.closed ≡ false → d.pending ≡ [] → d.next ≡ None → d.segment.base < length d.history → MayMake p a (λ w. close_log ∷ [])
  may_close open_ nothing none below = known_made p a close_log tt (record { state = d; held = log_held; so_is = (open_, inr (nothing, none, below)) })

  pub may_renew : (edit : InstalledEdit) → KnowsRenewed a d t edit → MayMake p a (λ w. renew edit ∷ [])
  may_renew edit known = known_made p a (renew edit) tt (record { state = d; held = log_held; so_is = record { state = t; held = tables_held; so_is = known } })

  pub may_use : d.closed ≡ false → d.next ≡ Some t.last.segment → MayMake p a (λ w. use_segment ∷ [])
  may_use open_ named = known_made p a use_segment tt (record { state = d; held = log_held; so_is = (open_, record { state = t; held = tables_held; so_is = named }) })

  pub may_halt_next : (edit : Option InstalledEdit) → t.halted ≡ false → IfSome edit (λ e. IsEditCovered a.participant.seen e × NextNamed d e) → MayMake p a (λ w. halt edit ∷ [])
  may_halt_next None running asked = known_made p a (halt None) tt (record { state = t; held = tables_held; so_is = running })
  may_halt_next (Some edit) running asked = known_made p a (halt (Some edit)) tt (record { state = t; held = tables_held; so_is = (running, asked.0, inr (record { state = d; held = log_held; so_is = asked.1 })) })

  pub may_stop : d.pending ≡ [] → d.closed ≡ false → d.next ≢ Some t.last.segment → t.halted ≡ true → MayMake p a (λ w. stop_log ∷ [])
  may_stop nothing open_ other halted = known_made p a stop_log tt (record { state = d; held = log_held; so_is = record { state = t; held = tables_held; so_is = (nothing, open_, other, halted) } })

-- what each leaves of the seat is told by `goes_from`, as for the steps of a flush: the held states by `held_with`, the past by the event,
-- the notes by what ends none of them but `nothing_flushed`, which an edit ends
renew_ends : (history : List Entry) (words : ℕ) (edit : InstalledEdit) (fact : Fact) → is_of_flushed fact ≡ false → ends history words (renew edit) fact ≡ false
renew_ends history words edit nothing_flushed e = absurd (true≢false e)
renew_ends history words edit other e = refl

-- none of the steps at the log ends a note
log_ends : (history : List Entry) (words : ℕ) (place : ℕ) (fact : Fact) → ends history words (write_segment place) fact ≡ false
log_ends history words place nothing_flushed = refl
log_ends history words place other = refl

close_ends : (history : List Entry) (words : ℕ) (fact : Fact) → ends history words close_log fact ≡ false
close_ends history words nothing_flushed = refl
close_ends history words other = refl

use_ends : (history : List Entry) (words : ℕ) (fact : Fact) → ends history words use_segment fact ≡ false
use_ends history words nothing_flushed = refl
use_ends history words other = refl

stop_ends : (history : List Entry) (words : ℕ) (fact : Fact) → ends history words stop_log fact ≡ false
stop_ends history words nothing_flushed = refl
stop_ends history words other = refl

halt_ends : (history : List Entry) (words : ℕ) (edit : Option InstalledEdit) (fact : Fact) → ends history words (halt edit) fact ≡ false
halt_ends history words edit nothing_flushed = refl
halt_ends history words edit other = refl

module _ (p : Place) (so : World → Type 0) (s u : SeatState) (same : (u.table ≡ s.table) × (u.by ≡ s.by) × (u.turns ≡ s.turns)) (d : WriteState) (t : Installed) (held : s.knows.held ≡ writes d ∷ installed t ∷ []) where
  log_is : (w : World) → IsAt p s.knows w → w.writes ≡ d
  log_is w k = held_state p s.knows w (writes d) k (first_held s.knows (writes d) (installed t ∷ []) held)

  tables_are : (w : World) → IsAt p s.knows w → w.installed ≡ t
  tables_are w k = held_state p s.knows w (installed t) k (second_held s.knows (writes d) (installed t) held)

  pub was_written : (place : ℕ) (segment : Segment) → segment ≡ record { place = place; base = length d.history } → Moved p (λ w. write_segment place ∷ []) so s.knows u.knows
      → GoesOn no_fact (writes (with_next d segment) ∷ installed t ∷ []) s.turns s u
  was_written place segment is m =
      let w = m.world in
      let left : held_with s.knows.held (writes (record w.writes { next = Some (record { place = place; base = length w.writes.history }) })) ≡ writes (with_next d segment) ∷ installed t ∷ [] =
      (λ i. held_with (held i) (writes (let x : WriteState = log_is w m.before i in record x { next = Some (record { place = place; base = length x.history }) }))) ∙ ap (λ (g : Segment). writes (with_next d g) ∷ installed t ∷ []) (sym is) in
      goes_from p so s u same (λ v. write_segment place ∷ []) m s.knows no_fact (writes (with_next d segment) ∷ installed t ∷ []) refl refl left
      (λ fact other. ((λ x. x), log_ends w.writes.history (length w.cache) place fact, tt))

  pub was_used : Moved p (λ w. use_segment ∷ []) so s.knows u.knows → d.next ≡ Some t.last.segment → GoesOn no_fact (writes (with_segment d t.last.segment) ∷ installed t ∷ []) s.turns s u
  was_used m named =
      let w = m.world in
      let left : held_with s.knows.held (writes (record w.writes { segment = unwrap_or w.writes.next w.writes.segment; next = None })) ≡ writes (with_segment d t.last.segment) ∷ installed t ∷ [] =
      (λ i. held_with (held i) (writes (let x : WriteState = log_is w m.before i in record x { segment = unwrap_or x.next x.segment; next = None })))
      ∙ ap (λ (o : Option Segment). writes (with_segment d (unwrap_or o d.segment)) ∷ installed t ∷ []) named in
      goes_from p so s u same (λ v. use_segment ∷ []) m s.knows no_fact (writes (with_segment d t.last.segment) ∷ installed t ∷ []) refl refl left
      (λ fact other. ((λ x. x), use_ends w.writes.history (length w.cache) fact, tt))

  pub was_stopped : Moved p (λ w. stop_log ∷ []) so s.knows u.knows
      → GoesOn no_fact (writes (record d { closed = true; stopped = true }) ∷ installed t ∷ []) s.turns (with_participant (with_events (log_stopped ∷ []) s.knows.participant) s) u
  was_stopped m =
      let w = m.world in
      let left : held_with s.knows.held (writes (record w.writes { closed = true; stopped = true })) ≡ writes (record d { closed = true; stopped = true }) ∷ installed t ∷ [] =
      λ i. held_with (held i) (writes (record (log_is w m.before i) { closed = true; stopped = true })) in
      goes_from p so s u same (λ v. stop_log ∷ []) m (record s.knows { participant = with_events (log_stopped ∷ []) s.knows.participant }) no_fact (writes (record d { closed = true; stopped = true }) ∷ installed t ∷ []) refl refl left
      (λ fact other. ((λ x. x), stop_ends w.writes.history (length w.cache) fact, tt))

  pub was_closed : Moved p (λ w. close_log ∷ []) so s.knows u.knows → d.pending ≡ []
      → GoesOn no_fact (writes (record d { closed = true; failed = [] }) ∷ installed t ∷ []) s.turns (with_participant (with_events (log_failed [] ∷ []) s.knows.participant) s) u
  was_closed m nothing =
      let w = m.world in
      let none : w.writes.pending ≡ [] = ap (λ (x : WriteState). x.pending) (log_is w m.before) ∙ nothing in
      let left : held_with s.knows.held (writes (record w.writes { closed = true; failed = w.writes.pending })) ≡ writes (record d { closed = true; failed = [] }) ∷ installed t ∷ [] =
      (λ i. held_with (held i) (writes (let x : WriteState = log_is w m.before i in record x { closed = true; failed = x.pending }))) ∙ ap (λ (xs : List Entry). writes (record d { closed = true; failed = xs }) ∷ installed t ∷ []) nothing in
      goes_from p so s u same (λ v. close_log ∷ []) m (record s.knows { participant = with_events (log_failed [] ∷ []) s.knows.participant }) no_fact (writes (record d { closed = true; failed = [] }) ∷ installed t ∷ []) refl
      (ap (λ (xs : List Entry). let b = actor_after (close_log ∷ []) w p.by s.knows in record b { participant = with_events (log_failed xs ∷ []) s.knows.participant }) none) left
      (λ fact other. ((λ x. x), close_ends w.writes.history (length w.cache) fact, tt))

  pub was_renewed : (e : Installed) → e ≡ record t { last = e.last } → Moved p (λ w. renew e.last ∷ []) so s.knows u.knows
      → GoesOn is_of_flushed (writes d ∷ installed e ∷ []) s.turns (with_participant (with_events (renewed e.last ∷ []) s.knows.participant) s) u
  was_renewed e is m =
      let w = m.world in
      let left : held_with s.knows.held (installed (record w.installed { last = e.last })) ≡ writes d ∷ installed e ∷ [] =
      (λ i. held_with (held i) (installed (record (tables_are w m.before i) { last = e.last }))) ∙ ap (λ (x : Installed). writes d ∷ installed x ∷ []) (sym is) in
      goes_from p so s u same (λ v. renew e.last ∷ []) m (record s.knows { participant = with_events (renewed e.last ∷ []) s.knows.participant }) is_of_flushed (writes d ∷ installed e ∷ []) refl refl left
      (λ fact other. ((λ x. x), renew_ends w.writes.history (length w.cache) e.last fact other, tt))

  pub was_halted_beside : (e : Installed) → e ≡ with_failed t e.failed → Moved p (λ w. halt e.failed ∷ []) so s.knows u.knows
      → GoesOn no_fact (writes d ∷ installed e ∷ []) s.turns (with_participant (with_events (tables_failed e.last e.failed ∷ []) s.knows.participant) s) u
  was_halted_beside e is m =
      let w = m.world in
      let left : held_with s.knows.held (installed (with_failed w.installed e.failed)) ≡ writes d ∷ installed e ∷ [] =
      (λ i. held_with (held i) (installed (with_failed (tables_are w m.before i) e.failed))) ∙ ap (λ (x : Installed). writes d ∷ installed x ∷ []) (sym is) in
      let last : w.installed.last ≡ e.last = ap (λ (x : Installed). x.last) (tables_are w m.before) ∙ (sym (failed_last t e.failed) ∙ ap (λ (x : Installed). x.last) (sym is)) in
      goes_from p so s u same (λ v. halt e.failed ∷ []) m (record s.knows { participant = with_events (tables_failed e.last e.failed ∷ []) s.knows.participant }) no_fact (writes d ∷ installed e ∷ []) refl
      (ap (λ (l : InstalledEdit). let b = actor_after (halt e.failed ∷ []) w p.by s.knows in record b { participant = with_events (tables_failed l e.failed ∷ []) s.knows.participant }) last) left
      (λ fact other. ((λ x. x), halt_ends w.writes.history (length w.cache) e.failed fact, tt))

-- ---- what is held is held

same_log : (b d : WriteState) (r t : Installed) → writes b ∷ installed r ∷ [] ≡ writes d ∷ installed t ∷ [] → r ≡ t
same_log b d r t is = ap last_of is
  where
    last_of : List Content → Installed
    last_of (first ∷ installed x ∷ []) = x
    last_of other = r

pub same_held : (a : Actor) (b d : WriteState) (r t : Installed) → a.held ≡ writes b ∷ installed r ∷ [] → a.held ≡ writes d ∷ installed t ∷ [] → (e : Installed) → e ≡ record r { last = e.last } → e ≡ record t { last = e.last }
same_held a b d r t one other e is = is ∙ ap (λ (x : Installed). record x { last = e.last }) (same_log b d r t (sym one ∙ other))

pub same_failed : (a : Actor) (b d : WriteState) (r t : Installed) → a.held ≡ writes b ∷ installed r ∷ [] → a.held ≡ writes d ∷ installed t ∷ [] → (e : Installed) → e ≡ with_failed r e.failed → e ≡ with_failed t e.failed
same_failed a b d r t one other e is = is ∙ ap (λ (x : Installed). with_failed x e.failed) (same_log b d r t (sym one ∙ other))

-- ---- the log was closed before

closed_ends : EndsNothing find_log_closed
closed_ends = record { guard = λ turn. refl; place = λ words place. refl; words = refl; delayed_flag = refl; old_flag = refl; pending = refl; adds = refl; takes = refl; prepared = refl; unprepared = refl; delays = refl; transaction = λ history name. refl; changes = λ history key. refl; direct = refl; moves = refl; replaces = refl; installing = refl }

pub may_find_closed : (p : Place) (a : Actor) (d : WriteState) → IsIn (writes d) a.held → d.closed ≡ true → MayMake p a (λ w. find_log_closed ∷ [])
may_find_closed p a d held closed = known_made p a find_log_closed tt (record { state = d; held = held; so_is = closed })

pub closed_found : (p : Place) (so : World → Type 0) (s u : SeatState) → (u.table ≡ s.table) × (u.by ≡ s.by) × (u.turns ≡ s.turns) → (d : WriteState) → IsIn (writes d) s.knows.held → Moved p (λ w. find_log_closed ∷ []) so s.knows u.knows
    → u ≡ with_participant (with_events (stopped (length d.history) ∷ []) s.knows.participant) s
closed_found p so s u same d held m =
    let step = made p find_log_closed so s.knows u.knows closed_ends m in
    becomes s u (record s.knows { participant = with_events (stopped (length d.history) ∷ []) s.knows.participant }) same
    (step.actor ∙ ap (λ (x : WriteState). record s.knows { participant = with_events (stopped (length x.history) ∷ []) s.knows.participant }) (held_state p s.knows step.world (writes d) step.before held))
