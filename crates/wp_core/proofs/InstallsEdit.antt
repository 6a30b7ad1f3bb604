-- Installing an edit of a flush or a compaction, and the failure of the tables' devices, keep a world sound.
use Rattle.std.proofs.Common.{◌≡◌, ◌≢◌, ⊎_elim, inl, inr, ℕ, ◌+◌, ◌≤◌, ◌⊎◌, Bool, true, false, true≢false, List, [], ◌∷◌, ◌++◌, length, refl, sym, subst, ap, ◌∙◌, arith, Option, Some, None}
use Rattle.std.proofs.lemmas.List.Sums.{fold-append}
use mathlib.Core.Option.{some}
use lib.ListN.{get_elem?}
use Rattle.wp_core.specs.Lists.{one_if}
use Rattle.wp_core.specs.Turns.{tables_turn}
use Rattle.wp_core.specs.States.{Installed}
use Rattle.wp_model.specs.Flushed.{InstalledEdit}
use Rattle.wp_model.specs.declared.segment.Segment.{Segment}
use Rattle.wp_core.specs.Views.{Event, log_failed, log_stopped, tables_failed, stopped, based_at, Fact, nothing_flushed}
use Rattle.wp_core.specs.Views as event
use Rattle.wp_core.specs.World.{Actor, Participant, World}
use Rattle.wp_core.specs.Steps.{install, halt}
use Rattle.wp_core.specs.Effects.{done, with_failed}
use Rattle.wp_core.specs.Conditions.{NamesSegment, NamesNext}
use Rattle.wp_core.specs.Needs.{Needs}
use Rattle.wp_core.specs.Notes.{forgets}
use Rattle.wp_core.specs.Sound.Pasts.{IsPast, closes_log, is_tables_fault, AreFaults, raised_to, WasInstalled, WasPlaced, due_after, tables_due, last_after, last_installed, OtherDid, OtherCompacts, AreEdits}
use Rattle.wp_core.specs.Sound.Segments.{AreCoupled}
use Rattle.wp_core.specs.IsSound.{IsSound}
use Rattle.wp_core.proofs.PastsGrow.{done_last, past_last, past_before, times_more}
use Rattle.wp_core.proofs.Remembers.{bases_still, installed_still, placed_still, faults_more, edits_grown}
use Rattle.wp_core.proofs.TablesChange.{SoInstalled, actor_after, pasts_after, tables_change}
use Rattle.wp_core.proofs.AllParts.{SoIn}
use Rattle.wp_core.proofs.Quiet.{Stays, stays_not}
use Rattle.wp_model.proofs.Tests.{same_some, none_some}

-- the tables that are due once one more event is in a past
pub due_more : (first : InstalledEdit) (past : List Event) (e : Event) → tables_due first (past ++ e ∷ []) ≡ due_after (tables_due first past) e
due_more first past e = fold-append due_after first.tables past (e ∷ [])

-- the last edit that is known then
pub last_more : (first : InstalledEdit) (past : List Event) (e : Event) → last_installed first (past ++ e ∷ []) ≡ last_after (last_installed first past) e
last_more first past e = fold-append last_after first past (e ∷ [])

-- ---- an edit is installed

so_installed : (w : World) (edit : InstalledEdit) (compacts : Bool) (p : Participant) (fact : Fact) → Stays w (install edit compacts) tables_turn fact → SoIn w p fact → SoInstalled w (record w.installed { last = edit }) p fact
so_installed w edit compacts p nothing_flushed stays k = absurd (stays_not tables_turn stays)
so_installed w edit compacts p fact stays k = k

module _ (w : World) (by : ℕ) (a : Actor) (edit : InstalledEdit) (compacts : Bool) (at : get_elem? w.actors by ≡ some a) (n : Needs w by a (install edit compacts)) (s : IsSound w) where
  abbrev t : Installed
  t = record w.installed { last = edit }

  abbrev e : Event
  e = event.installed edit compacts

  abbrev c : Actor
  c = actor_after w by a (install edit compacts) e t

  abbrev after : List (List (List Event))
  after = pasts_after w by a (install edit compacts) e t

  faults_installed : AreFaults w.writes w.installed.halted after
  faults_installed = faults_more w.actors by a c e at refl refl w.writes w.installed.halted refl refl (λ n q. absurd cc) (λ n base q. absurd cc) (λ x q. absurd cc) s.faults

  -- no install failed before
  coupled_installed : AreCoupled w.writes t w.holders.write
  coupled_installed = record {
    last = subst (λ (x : Segment). (x ≡ w.writes.segment) ⊎ ((w.writes.next ≡ Some x) × (w.writes.closed ≡ false))) (sym n.6) s.coupled.last;
    failed = λ x q. absurd (none_some w.installed.failed x (s.edits.none_failed n.1) q);
    next = s.coupled.next;
  }

  -- the others know that it was another's
  by_other : (j i : ℕ) → (j ≢ by) ⊎ (i ≢ 0) → OtherDid after j i e
  by_other j i apart = (by, 0, ⊎_elim (λ (ne : j ≢ by). inl (λ q. ne (sym q))) (λ (ne : i ≢ 0). inr (λ q. ne (sym q))) apart, done_last w.actors by a c e at refl refl)

  -- a compaction keeps the flushed number
  flushed_at : (b : Bool) → b ≡ compacts → WasInstalled w.first_edit after edit.flushed
  flushed_at false q = inr (event.installed edit false, refl, subst (λ (z : Bool). IsPast after (event.installed edit z)) (sym q) (past_last w.actors by a c e at refl refl))
  flushed_at true q = subst (WasInstalled w.first_edit after) (sym (n.4 (sym q))) (installed_still w.actors by a c e at refl refl w.first_edit w.installed.last.flushed s.edits.last)

  raised : (b : Bool) (m : ℕ) → raised_to (event.installed edit b) ≡ Some m → m ≤ edit.flushed
  raised false m q = let same : edit.flushed ≡ m = same_some edit.flushed m q in omega (arith, same)
  raised true m q = let none : None ≡ Some m = q in absurd cc

  -- a flush brings one table more
  its_tables : (b : Bool) → b ≡ compacts → tables_due w.first_edit a.participant.past ≤ w.installed.last.tables → due_after (tables_due w.first_edit a.participant.past) (event.installed edit b) ≤ edit.tables
  its_tables false q due = let more = n.3 (sym q) in omega arith
  its_tables true q due = omega arith

  their_tables : (b : Bool) → b ≡ compacts → (j i : ℕ) (past : List Event) → (j ≢ by) ⊎ (i ≢ 0) → tables_due w.first_edit past ≤ w.installed.last.tables → (tables_due w.first_edit past ≤ edit.tables) ⊎ OtherCompacts after j i
  their_tables false q j i past apart due = let more = n.3 (sym q) in inl (omega arith)
  their_tables true q j i past apart due = inr (edit, subst (λ (z : Bool). OtherDid after j i (event.installed edit z)) (sym q) (by_other j i apart))

  edits_installed : AreEdits w.first_edit t after
  edits_installed = edits_grown w.actors by a c e at refl refl w.first_edit w.installed t record {
    last = flushed_at compacts refl;
    placed = subst (λ (x : Segment). WasPlaced w.first_edit after x) (sym n.6) (placed_still w.actors by a c e at refl refl w.first_edit w.installed.last.segment s.edits.placed);
    rises = n.5;
    new = raised compacts;
    based = λ n base q. absurd cc;
    base_rises = let segment = ap (λ (x : Segment). x.base) n.6 in omega (arith, segment);
    renews = λ x q. absurd cc;
    found = λ n base tables due halted q. absurd cc;
    its_edit = λ same. sym (last_more w.first_edit a.participant.past e);
    their_edit = λ j i past apart same. inr (e, refl, by_other j i apart);
    its_tables = λ due. subst (λ (z : ℕ). z ≤ edit.tables) (sym (due_more w.first_edit a.participant.past e)) (its_tables compacts refl due);
    their_tables = their_tables compacts refl;
    failed = λ last failing h. ⊎_elim (λ k. absurd (true≢false (sym (s.edits.failed last failing k).0 ∙ n.1))) (λ (q : e ≡ tables_failed last failing). absurd cc) (past_before w.actors by a c e at refl refl (tables_failed last failing) h);
    stays = λ halted. absurd (true≢false (sym halted ∙ n.1));
    found_halted = λ n base tables due q. absurd cc;
    none_failed = s.edits.none_failed;
  } s.edits

pub installs : (w : World) (by : ℕ) (a : Actor) (edit : InstalledEdit) (compacts : Bool) → get_elem? w.actors by ≡ some a → Needs w by a (install edit compacts) → IsSound w
    → IsSound (done w by (forgets w.writes.history (length w.cache) (install edit compacts) a) (install edit compacts))
installs w by a edit compacts at n s =
    tables_change w by a (install edit compacts) (event.installed edit compacts) (record w.installed { last = edit }) at n.0 (record {
      nothing = tt;
      tells_nothing = tt;
      stored = n.2;
      coupled = coupled_installed w by a edit compacts at n s;
      faults = faults_installed w by a edit compacts at n s;
      edits = edits_installed w by a edit compacts at n s;
      so = so_installed w edit compacts;
    }) s

-- ---- the devices of the tables failed

still_last : (t : Installed) (edit : Option InstalledEdit) → (with_failed t edit).last ≡ t.last
still_last t None = refl
still_last t (Some edit) = refl

is_halted : (t : Installed) (edit : Option InstalledEdit) → (with_failed t edit).halted ≡ true
is_halted t None = refl
is_halted t (Some edit) = refl

now_failed : (t : Installed) (edit : Option InstalledEdit) → t.failed ≡ None → (with_failed t edit).failed ≡ edit
now_failed t None none = none
now_failed t (Some edit) none = refl

-- the edit whose install failed names the last one's segment, or the next one
coupled_halted : (w : World) (by : ℕ) (edit : Option InstalledEdit) → ((failed : InstalledEdit) → edit ≡ Some failed → NamesSegment w failed ⊎ NamesNext w by failed) → IsSound w → AreCoupled w.writes (with_failed w.installed edit) w.holders.write
coupled_halted w by None names s = record { last = s.coupled.last; failed = s.coupled.failed; next = s.coupled.next }
coupled_halted w by (Some edit) names s = record {
  last = s.coupled.last;
  failed = λ x q. ⊎_elim (λ (same : NamesSegment w x). inl same) (λ (next : NamesNext w by x). inr next.2) (names x q);
  next = s.coupled.next;
}

so_halted : (w : World) (edit : Option InstalledEdit) (p : Participant) (fact : Fact) → SoIn w p fact → SoInstalled w (with_failed w.installed edit) p fact
so_halted w None p fact k = k
so_halted w (Some edit) p fact k = k

module _ (w : World) (by : ℕ) (a : Actor) (edit : Option InstalledEdit) (at : get_elem? w.actors by ≡ some a) (running : w.installed.halted ≡ false) (s : IsSound w) where
  abbrev u : Installed
  u = with_failed w.installed edit

  abbrev failure : Event
  failure = tables_failed w.installed.last edit

  abbrev b : Actor
  b = actor_after w by a (halt edit) failure u

  abbrev then : List (List (List Event))
  then = pasts_after w by a (halt edit) failure u

  faults_halted : AreFaults w.writes u.halted then
  faults_halted =
      let l = times_more w.actors by a b failure at refl refl closes_log in
      let m = times_more w.actors by a b failure at refl refl is_tables_fault in
      let x = s.faults.log in
      let y = s.faults.tables ∙ ap one_if running in
      record {
        log = omega arith;
        tables = m ∙ (ap (λ (z : ℕ). z + 1) y ∙ sym (ap one_if (is_halted w.installed edit)));
        not_logged = s.faults.not_logged;
        stopped = λ n h. ⊎_elim (λ k. s.faults.stopped n k) (λ (q : failure ≡ stopped n). absurd cc) (past_before w.actors by a b failure at refl refl (stopped n) h);
        based = λ n base h. bases_still w.actors by a b failure at refl refl w.writes (λ x q. absurd cc) n base
            (⊎_elim (λ k. s.faults.based n base k) (λ (q : failure ≡ based_at n base). absurd cc) (past_before w.actors by a b failure at refl refl (based_at n base) h));
        failed = λ entries h. ⊎_elim (λ k. s.faults.failed entries k) (λ (q : failure ≡ log_failed entries). absurd cc) (past_before w.actors by a b failure at refl refl (log_failed entries) h);
        renewing = s.faults.renewing;
        of_log = λ entries h. ⊎_elim (λ k. s.faults.of_log entries k) (λ (q : failure ≡ log_failed entries). absurd cc) (past_before w.actors by a b failure at refl refl (log_failed entries) h);
        behind = λ h. is_halted w.installed edit;
        unfailed = λ h. ⊎_elim (λ k. s.faults.unfailed k) (λ (q : failure ≡ log_stopped). absurd cc) (past_before w.actors by a b failure at refl refl log_stopped h);
      }

  -- it is the one failure
  failed_now : (last : InstalledEdit) (failing : Option InstalledEdit) → failure ≡ tables_failed last failing → (u.halted ≡ true) × (u.last ≡ last) × (u.failed ≡ failing)
  failed_now last failing q =
      let same_last : w.installed.last ≡ last = cc in
      let same : edit ≡ failing = cc in
      (is_halted w.installed edit, still_last w.installed edit ∙ same_last, now_failed w.installed edit (s.edits.none_failed running) ∙ same)

  edits_halted : AreEdits w.first_edit u then
  edits_halted =
      let same : u.last ≡ w.installed.last = still_last w.installed edit in
      let tables : u.last.tables ≡ w.installed.last.tables = ap (λ (z : InstalledEdit). z.tables) same in
      edits_grown w.actors by a b failure at refl refl w.first_edit w.installed u record {
        rises = let flushed = ap (λ (z : InstalledEdit). z.flushed) same in omega (arith, flushed);
        new = λ x q. absurd cc;
        based = λ n base q. absurd cc;
        base_rises = let base = ap (λ (z : InstalledEdit). z.segment.base) same in omega (arith, base);
        renews = λ x q. absurd cc;
        last = subst (λ (z : InstalledEdit). WasInstalled w.first_edit then z.flushed) (sym same) (installed_still w.actors by a b failure at refl refl w.first_edit w.installed.last.flushed s.edits.last);
        placed = subst (λ (z : InstalledEdit). WasPlaced w.first_edit then z.segment) (sym same) (placed_still w.actors by a b failure at refl refl w.first_edit w.installed.last.segment s.edits.placed);
        found = λ n base tables due halted q. absurd cc;
        its_edit = λ known. same ∙ known ∙ sym (last_more w.first_edit a.participant.past failure);
        their_edit = λ j i past apart known. inl (same ∙ known);
        its_tables = λ due. let q = due_more w.first_edit a.participant.past failure in omega arith;
        their_tables = λ j i past apart due. inl (omega arith);
        failed = λ last failing h. ⊎_elim (λ k. absurd (true≢false (sym (s.edits.failed last failing k).0 ∙ running))) (λ q. failed_now last failing q) (past_before w.actors by a b failure at refl refl (tables_failed last failing) h);
        stays = λ halted. (is_halted w.installed edit, same);
        found_halted = λ n base tables due q. absurd cc;
        none_failed = λ q. absurd (true≢false (sym (is_halted w.installed edit) ∙ q));
      } s.edits

pub halts : (w : World) (by : ℕ) (a : Actor) (edit : Option InstalledEdit) → get_elem? w.actors by ≡ some a → Needs w by a (halt edit) → IsSound w
    → IsSound (done w by (forgets w.writes.history (length w.cache) (halt edit) a) (halt edit))
halts w by a edit at n s =
    tables_change w by a (halt edit) (tables_failed w.installed.last edit) (with_failed w.installed edit) at n.0 (record {
      nothing = tt;
      tells_nothing = tt;
      stored = n.2;
      coupled = coupled_halted w by edit n.3 s;
      faults = faults_halted w by a edit at n.1 s;
      edits = edits_halted w by a edit at n.1 s;
      so = λ p fact stays k. so_halted w edit p fact k;
    }) s
