-- Closing the log, after its device failed or the tables' devices did, keeps a world sound.
use Rattle.std.proofs.Common.{◌≡◌, ◌≢◌, ◌⊎◌, ⊎_elim, inl, inr, ℕ, ◌<◌, Bool, true, false, true≢false, List, [], ◌∷◌, ◌++◌, length, map, set, refl, sym, subst, ap, ◌∙◌, arith, Some}
use mathlib.Core.Option.{some}
use lib.ListN.{get_elem?}
use Rattle.wp_model.specs.declared.entry.Entry.{Entry}
use Rattle.wp_model.specs.Flushed.{InstalledEdit}
use Rattle.wp_model.specs.Legal.{IsLegal}
use Rattle.wp_core.specs.Lists.{one_if}
use Rattle.wp_core.specs.States.{WriteState, writes}
use Rattle.wp_core.specs.Turns.{Holds, write_turn}
use Rattle.wp_core.specs.Views.{Event, log_failed, log_stopped, stopped, based_at, Fact}
use Rattle.wp_core.specs.World.{Participant, Actor, World, content_of, with_content}
use Rattle.wp_core.specs.World as world
use Rattle.wp_core.specs.Steps.{Step, close_log, stop_log}
use Rattle.wp_core.specs.Changes.{held_with, change, remembers}
use Rattle.wp_core.specs.Effects.{done}
use Rattle.wp_core.specs.Needs.{Needs}
use Rattle.wp_core.specs.Notes.{forgets}
use Rattle.wp_core.specs.Sound.Actors.{participants_of}
use Rattle.wp_core.specs.Sound.History.{IsHistory}
use Rattle.wp_core.specs.Sound.Segments.{AreCoupled}
use Rattle.wp_core.specs.Sound.Pasts.{past_of, AreFaults, closes_log, is_tables_fault, raised_to, due_after, last_after}
use Rattle.wp_core.specs.IsSound.{IsSound}
use Rattle.wp_core.proofs.OwnersStay.{past_locked}
use Rattle.wp_core.proofs.PastsGrow.{past_before, times_more}
use Rattle.wp_core.proofs.PendingSteps.{SoPending}
use Rattle.wp_core.proofs.Quiet.{idle_after}
use Rattle.wp_core.proofs.Remembers.{FindsNothing, TellsNothing, not_raised, bases_still, holders_still, board_still, edits_still}
use Rattle.wp_core.proofs.AllParts.{SoIn, all_parts, views_still, readers_still, turns_changed, notes_stay, led_still}
use Rattle.wp_core.proofs.Gives.{not_free}

-- The log is closed by a step: with this event in the actor's past, after which the log may have this record, for its own device or not.
module _ (w : World) (by : ℕ) (a : Actor) (step : Step) (failure : Event) (stops : Bool) (failed : List Entry) where
  abbrev d : WriteState
  d = record w.writes { closed = true; stopped = stops; failed = failed }

  abbrev c : Actor
  c = remembers (forgets w.writes.history (length w.cache) step a) failure

  abbrev b : Actor
  b = record c { held = held_with c.held (writes d) }

  record Closes : Type 0 where
    pub holds : Holds w.holders write_turn by
    pub running : w.writes.closed ≡ false
    pub still : (w.writes.pending ≡ []) ⊎ (w.writes.logged ≡ false)
    pub legal : IsLegal (w.writes.history ++ failed)
    pub not_next : w.writes.next ≡ Some w.installed.last.segment → ⊥
    pub closes : closes_log failure ≡ true
    pub quiet : is_tables_fault failure ≡ false
    pub nothing : FindsNothing failure
    pub tells_nothing : TellsNothing failure
    pub due : (n : ℕ) → due_after n failure ≡ n
    pub last : (edit : InstalledEdit) → last_after edit failure ≡ edit
    pub record_is : (entries : List Entry) → failure ≡ log_failed entries → failed ≡ entries
    pub renewing : stops ≡ false → failed ≡ [] → w.writes.segment.base < length w.writes.history
    pub of_log : (entries : List Entry) → failure ≡ log_failed entries → stops ≡ false
    pub behind : failure ≡ log_stopped → w.installed.halted ≡ true
    pub unfailed : failure ≡ log_stopped → (stops ≡ true) × (failed ≡ [])

  module _ (at : get_elem? w.actors by ≡ some a) (k : Closes) (s : IsSound w) where
    abbrev p : Participant
    p = record a.participant { past = a.participant.past ++ failure ∷ [] }

    -- no fact speaks of a past, nor of a closed log
    so_closed : (fact : Fact) → SoIn w a.participant fact → SoPending w d p fact
    so_closed fact so = so

    others_closed : (x : Participant) (fact : Fact) → SoIn w x fact → SoPending w d x fact
    others_closed x fact so = so

    history_closed : IsHistory w.opened d w.max_evicted
    history_closed = let h = s.history in record {
      legal = h.legal;
      grown = h.grown;
      bounded = h.bounded;
      log = h.log;
      rest = h.rest;
      legal_next = h.legal_next;
      legal_failed = k.legal;
      none_failed = λ q. absurd (true≢false q);
      not_stopped = λ q. absurd (true≢false q);
      undo_closes = h.undo_closes;
    }

    faults_closed : AreFaults d w.installed.halted (map (participants_of past_of) (set w.actors by b))
    faults_closed = record {
      log = let m = times_more w.actors by a b failure at refl refl closes_log in let f = s.faults.log in let q : one_if w.writes.closed ≡ 0 = ap one_if k.running in let one : one_if (closes_log failure) ≡ 1 = ap one_if k.closes in omega (arith, m, f, q, one);
      tables = let m = times_more w.actors by a b failure at refl refl is_tables_fault in let f = s.faults.tables in let none : one_if (is_tables_fault failure) ≡ 0 = ap one_if k.quiet in omega (arith, m, f, none);
      not_logged = λ q. k.still;
      stopped = λ m h. ⊎_elim (λ f. absurd (true≢false (sym (s.faults.stopped m f).0 ∙ k.running))) (λ (q : failure ≡ stopped m). absurd (subst FindsNothing q k.nothing)) (past_before w.actors by a b failure at refl refl (stopped m) h);
      based = λ m base h. bases_still w.actors by a b failure at refl refl w.writes (λ edit q. absurd (not_raised failure edit k.last edit.flushed (ap raised_to q))) m base
          (⊎_elim (λ f. s.faults.based m base f) (λ (q : failure ≡ based_at m base). absurd (subst FindsNothing q k.nothing)) (past_before w.actors by a b failure at refl refl (based_at m base) h));
      failed = λ entries h. ⊎_elim (λ f. absurd (true≢false (sym (s.faults.failed entries f).0 ∙ k.running))) (λ (q : failure ≡ log_failed entries). (refl, k.record_is entries q)) (past_before w.actors by a b failure at refl refl (log_failed entries) h);
      renewing = λ closed. k.renewing;
      of_log = λ entries h. ⊎_elim (λ f. absurd (true≢false (sym (s.faults.failed entries f).0 ∙ k.running))) (λ (q : failure ≡ log_failed entries). k.of_log entries q) (past_before w.actors by a b failure at refl refl (log_failed entries) h);
      behind = λ h. ⊎_elim (λ f. s.faults.behind f) (λ (q : failure ≡ log_stopped). k.behind q) (past_before w.actors by a b failure at refl refl log_stopped h);
      unfailed = λ h.
          let c : (stops ≡ true) × (failed ≡ []) = ⊎_elim (λ f. absurd (true≢false (sym (s.faults.unfailed f).0 ∙ k.running))) (λ (q : failure ≡ log_stopped). k.unfailed q) (past_before w.actors by a b failure at refl refl log_stopped h) in (refl, c.0, c.1);
    }

    coupled_closed : AreCoupled d w.installed w.holders.write
    coupled_closed = record {
      last = ⊎_elim (λ (same : w.installed.last.segment ≡ w.writes.segment). inl same) (λ (next : (w.writes.next ≡ Some w.installed.last.segment) × (w.writes.closed ≡ false)). absurd (k.not_next next.0)) s.coupled.last;
      failed = s.coupled.failed;
      next = λ segment is. ((s.coupled.next segment is).0, λ running. absurd (true≢false running));
    }

    log_closes : IsSound (change w by c (writes d))
    log_closes =
        all_parts (with_content w (writes d)) (set w.actors by b)
        (record { history = history_closed; cache = s.cache; decided = s.decided; undecided = s.undecided; delayed = s.delayed; flags = s.flags; versions = s.versions; in_step = s.in_step; coupled = coupled_closed; pending = λ free. absurd (not_free w.holders write_turn by k.holds free) })
        (views_still w by a b at refl s) (past_locked w.actors by a b failure at refl refl w.opened w.writes.history w.locks s.locks) (record {
          holders = holders_still w.actors by a b failure at refl refl w.opened w.writes.history w.locks k.nothing s.holders;
          board = board_still w.actors by a b failure at refl refl (world.published w) w.locks k.tells_nothing s.board;
          faults = faults_closed;
          edits = edits_still w.actors by a b failure at refl refl w.first_edit w.installed k.due k.last k.quiet (λ m base tables due halted q. absurd (subst FindsNothing q k.nothing)) (λ m base q. absurd (subst FindsNothing q k.nothing)) (λ m base tables due q. absurd (subst FindsNothing q k.nothing)) s.edits;
        }) (turns_changed w by a b at (writes d) k.holds refl s)
        (readers_still w by a b at refl s)
        (notes_stay w by a b at step w.holders (SoPending w d) refl (λ fact left m. record { guarded = m.guarded; is_so = so_closed fact m.is_so }) (λ j x fact ne there m. record { guarded = m.guarded; is_so = others_closed x.0 fact m.is_so }) s)
        (led_still w by a b at refl s) (idle_after w by a b write_turn at k.holds s refl)

-- ---- an append failed, or the write of a segment

-- there was something to renew
abbrev Renewing : World → Type 0
Renewing w = (w.writes.pending ≡ []) × (w.writes.next ≢ Some w.installed.last.segment) × (w.writes.segment.base < length w.writes.history)

pub closes_log_by_fault : (w : World) (by : ℕ) (a : Actor) → get_elem? w.actors by ≡ some a → Needs w by a close_log → IsSound w → IsSound (done w by (forgets w.writes.history (length w.cache) close_log a) close_log)
closes_log_by_fault w by a at n s = log_closes w by a close_log (log_failed w.writes.pending) w.writes.stopped w.writes.pending at (record {
  holds = n.0;
  running = n.1;
  still = ⊎_elim (λ (k : (w.writes.pending ≢ []) × (w.writes.logged ≡ false)). inr k.1) (λ (k : Renewing w). inl k.0) n.2;
  legal = s.history.legal_next;
  not_next = λ is. ⊎_elim
      (λ (k : (w.writes.pending ≢ []) × (w.writes.logged ≡ false)). k.0 ((s.coupled.next w.installed.last.segment is).1 n.1).0)
      (λ (k : Renewing w). k.1 is)
      n.2;
  closes = refl;
  quiet = refl;
  nothing = tt;
  tells_nothing = tt;
  due = λ m. refl;
  last = λ m. refl;
  record_is = λ entries q. let same : w.writes.pending ≡ entries = cc in same;
  renewing = λ unstopped none. ⊎_elim (λ (k : (w.writes.pending ≢ []) × (w.writes.logged ≡ false)). absurd (k.0 none)) (λ (k : Renewing w). k.2) n.2;
  of_log = λ entries q. s.history.not_stopped n.1;
  behind = λ q. absurd cc;
  unfailed = λ q. absurd cc;
}) s

-- ---- it is stopped

pub stops_log : (w : World) (by : ℕ) (a : Actor) → get_elem? w.actors by ≡ some a → Needs w by a stop_log → IsSound w → IsSound (done w by (forgets w.writes.history (length w.cache) stop_log a) stop_log)
stops_log w by a at n s = log_closes w by a stop_log log_stopped true w.writes.failed at (record {
  holds = n.0;
  running = n.3;
  still = inl n.2;
  legal = s.history.legal_failed;
  not_next = n.4;
  closes = refl;
  quiet = refl;
  nothing = tt;
  tells_nothing = tt;
  due = λ m. refl;
  last = λ m. refl;
  record_is = λ entries q. absurd cc;
  renewing = λ q. absurd (true≢false q);
  of_log = λ entries q. absurd cc;
  behind = λ q. n.5;
  unfailed = λ q. (refl, s.history.none_failed n.3);
}) s
