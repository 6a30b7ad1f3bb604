-- Installing an edit that names the log's next segment, and the use of that segment, keep a world sound.
use Rattle.std.proofs.Common.{◌≡◌, ◌≢◌, ⊎_elim, inl, inr, ℕ, ◌≤◌, true≢false, List, [], ◌∷◌, ◌++◌, length, refl, sym, ap, ◌∙◌, arith, Option, Some, None, unwrap_or}
use mathlib.Core.Option.{some}
use lib.ListN.{get_elem?}
use Rattle.wp_model.specs.declared.segment.Segment.{Segment}
use Rattle.wp_model.specs.Flushed.{InstalledEdit}
use Rattle.wp_core.specs.Turns.{tables_turn}
use Rattle.wp_core.specs.States.{Installed}
use Rattle.wp_core.specs.Views.{Event, renewed, tables_failed, Fact, nothing_flushed}
use Rattle.wp_core.specs.World.{Actor, Participant, World}
use Rattle.wp_core.specs.Steps.{renew, use_segment}
use Rattle.wp_core.specs.Effects.{done}
use Rattle.wp_core.specs.Needs.{Needs}
use Rattle.wp_core.specs.Notes.{forgets}
use Rattle.wp_core.specs.Sound.Pasts.{past_of, IsPast, AreFaults, AreEdits, tables_due}
use Rattle.wp_core.specs.Sound.Segments.{AreCoupled}
use Rattle.wp_core.specs.IsSound.{IsSound, participants}
use Rattle.wp_core.proofs.AllParts.{SoIn}
use Rattle.wp_core.proofs.InstallsEdit.{due_more, last_more}
use Rattle.wp_core.proofs.PastsGrow.{done_last, past_last, past_before}
use Rattle.wp_core.proofs.PendingSteps.{log_changes}
use Rattle.wp_core.proofs.Quiet.{Stays, stays_not, notes_all}
use Rattle.wp_core.proofs.Remembers.{faults_more, edits_grown}
use Rattle.wp_core.proofs.TablesChange.{SoInstalled, actor_after, pasts_after, tables_change}
use Rattle.wp_model.proofs.Tests.{same_some, none_some}
use Rattle.wp_core.proofs.WritesSegment.{so_segments}

-- ---- the edit

so_renewed : (w : World) (edit : InstalledEdit) (p : Participant) (fact : Fact) → Stays w (renew edit) tables_turn fact → SoIn w p fact → SoInstalled w (record w.installed { last = edit }) p fact
so_renewed w edit p nothing_flushed stays k = absurd (stays_not tables_turn stays)
so_renewed w edit p fact stays k = k

module _ (w : World) (by : ℕ) (a : Actor) (edit : InstalledEdit) (at : get_elem? w.actors by ≡ some a) (n : Needs w by a (renew edit)) (s : IsSound w) where
  abbrev t : Installed
  t = record w.installed { last = edit }

  abbrev e : Event
  e = renewed edit

  abbrev c : Actor
  c = actor_after w by a (renew edit) e t

  abbrev after : List (List (List Event))
  after = pasts_after w by a (renew edit) e t

  -- it names the next segment; and no install failed before
  coupled_renewed : AreCoupled w.writes t w.holders.write
  coupled_renewed = record {
    last = inr (n.3.2, n.3.1);
    failed = λ x q. absurd (none_some w.installed.failed x (s.edits.none_failed n.1) q);
    next = s.coupled.next;
  }

  -- its base is what is published
  at_end : edit.segment.base ≡ length w.writes.history
  at_end = (s.coupled.next edit.segment n.3.2).0

  -- so it is no lower than the one before, which is not below the opening's
  up : w.installed.last.segment.base ≤ edit.segment.base
  up = let next = at_end in let low = s.versions.last.base in let high = s.versions.last.flushed in omega (arith, next, low, high)

  not_below : w.first_edit.segment.base ≤ w.installed.last.segment.base
  not_below = ⊎_elim
      (λ (same : w.installed.last.segment ≡ w.first_edit.segment). let base = ap (λ (x : Segment). x.base) same in omega (arith, base))
      (λ (k : (x : InstalledEdit) × (x.segment ≡ w.installed.last.segment) × IsPast (participants past_of w) (renewed x)). let was = (s.edits.risen k.0 k.2).0 in let base = ap (λ (x : Segment). x.base) k.1 in omega (arith, was, base))
      s.edits.placed

  faults_renewed : AreFaults w.writes w.installed.halted after
  faults_renewed = faults_more w.actors by a c e at refl refl w.writes w.installed.halted refl refl (λ m q. absurd cc) (λ m base q. absurd cc) (λ x q. let same : edit.segment.base ≡ x.segment.base = cc in let next = at_end in omega (arith, same, next)) s.faults

  -- it has as many tables as before, at least
  due_still : tables_due w.first_edit a.participant.past ≤ w.installed.last.tables → tables_due w.first_edit (a.participant.past ++ e ∷ []) ≤ edit.tables
  due_still due = let same = due_more w.first_edit a.participant.past e in let more = n.4 in omega (arith, same, more, due)

  edits_renewed : AreEdits w.first_edit t after
  edits_renewed = edits_grown w.actors by a c e at refl refl w.first_edit w.installed t record {
    last = inr (e, refl, past_last w.actors by a c e at refl refl);
    placed = inr (edit, refl, past_last w.actors by a c e at refl refl);
    rises = let low = s.versions.last.flushed in let is = n.3.3 in omega (arith, low, is);
    new = λ m q. let same : edit.flushed ≡ m = same_some edit.flushed m q in omega (arith, same);
    based = λ m base q. absurd cc;
    base_rises = up;
    renews = λ x q. let same : edit.segment.base ≡ x.segment.base = cc in let low = not_below in let high = up in (omega (arith, same, low, high), omega (arith, same));
    found = λ m base tables due halted q. absurd cc;
    its_edit = λ same. sym (last_more w.first_edit a.participant.past e);
    their_edit = λ j i past apart same. inr (e, refl, (by, 0, ⊎_elim (λ (ne : j ≢ by). inl (λ q. ne (sym q))) (λ (ne : i ≢ 0). inr (λ q. ne (sym q))) apart, done_last w.actors by a c e at refl refl));
    its_tables = due_still;
    their_tables = λ j i past apart due. let more = n.4 in inl (omega (arith, more, due));
    failed = λ last failing h. ⊎_elim (λ k. absurd (true≢false (sym (s.edits.failed last failing k).0 ∙ n.1))) (λ (q : e ≡ tables_failed last failing). absurd cc) (past_before w.actors by a c e at refl refl (tables_failed last failing) h);
    stays = λ halted. absurd (true≢false (sym halted ∙ n.1));
    found_halted = λ m base tables due q. absurd cc;
    none_failed = s.edits.none_failed;
  } s.edits

pub renews : (w : World) (by : ℕ) (a : Actor) (edit : InstalledEdit) → get_elem? w.actors by ≡ some a → Needs w by a (renew edit) → IsSound w
    → IsSound (done w by (forgets w.writes.history (length w.cache) (renew edit) a) (renew edit))
renews w by a edit at n s =
    tables_change w by a (renew edit) (renewed edit) (record w.installed { last = edit }) at n.0 (record {
      nothing = tt;
      tells_nothing = tt;
      stored = n.2;
      coupled = coupled_renewed w by a edit at n s;
      faults = faults_renewed w by a edit at n s;
      edits = edits_renewed w by a edit at n s;
      so = so_renewed w edit;
    }) s

-- ---- its segment

pub uses_segment : (w : World) (by : ℕ) (a : Actor) → get_elem? w.actors by ≡ some a → Needs w by a use_segment → IsSound w
    → IsSound (done w by (forgets w.writes.history (length w.cache) use_segment a) use_segment)
uses_segment w by a at n s =
    let k = s.history in
    let segment : Segment = unwrap_or w.writes.next w.writes.segment in
    log_changes w by a use_segment w.writes.pending w.writes.logged w.writes.log segment None at n.0
    (record { legal = k.legal; grown = k.grown; bounded = k.bounded; log = k.log; rest = k.rest; legal_next = k.legal_next; legal_failed = k.legal_failed; none_failed = k.none_failed; not_stopped = k.not_stopped; undo_closes = k.undo_closes })
    s.cache s.undecided s.delayed s.versions
    (record { log = s.faults.log; tables = s.faults.tables; not_logged = s.faults.not_logged; stopped = s.faults.stopped; based = s.faults.based; failed = s.faults.failed; renewing = λ closed. absurd (true≢false (sym closed ∙ n.1)); of_log = s.faults.of_log; behind = s.faults.behind; unfailed = s.faults.unfailed })
    (record {
      last = inl is_next;
      failed = λ edit q. inl (⊎_elim (λ (same : edit.segment ≡ w.installed.last.segment). same) (λ (next : w.writes.next ≡ Some edit.segment). same_some edit.segment w.installed.last.segment (sym next ∙ n.2)) (s.coupled.failed edit q));
      next = λ other q. absurd (none_some None other refl q);
    })
    (notes_all w by use_segment _ (so_segments w segment None)) s
  where
    is_next : w.installed.last.segment ≡ unwrap_or w.writes.next w.writes.segment
    is_next = sym (ap (λ (o : Option Segment). unwrap_or o w.writes.segment) n.2)
