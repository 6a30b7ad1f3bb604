-- Dropping an entry of which nothing is left keeps a world sound.
use Rattle.std.proofs.Common.{◌≡◌, ◌≢◌, ⊎_elim, inl, inr, ℕ, suc, ◌||◌, eq-eqb, Bool, true, false, true≢false, cond, List, [], ◌∷◌, ◌++◌, length, refl, sym, subst, ap, ◌∙◌, Some, None, append-nil, length-append, arith}
use Rattle.std.proofs.lemmas.Bool.{cases_lt}
use mathlib.Core.Option.{some}
use lib.ListN.{get_elem?}
use Rattle.std.specs.FinSet as finset
use Rattle.wp_model.specs.declared.entry.Entry.{Entry}
use Rattle.wp_model.specs.Decision.{decision_of}
use Rattle.wp_model.specs.History.{entry_at, is_prepare}
use Rattle.wp_model.specs.Legal.{IsLegal}
use Rattle.wp_model.specs.Versions.{version_at}
use Rattle.wp_judge.specs.Words.{CommitPair, commit_pair, decision_if}
use Rattle.wp_core.specs.Cache.{cache_place, pair_at, cached}
use Rattle.wp_core.specs.Entries.{extended, pending_pair}
use Rattle.wp_core.specs.Turns.{write_turn}
use Rattle.wp_core.specs.World.{Actor, World}
use Rattle.wp_core.specs.Steps.{drop_pending}
use Rattle.wp_core.specs.Effects.{done}
use Rattle.wp_core.specs.Needs.{Needs}
use Rattle.wp_core.specs.Notes.{forgets}
use Rattle.wp_core.specs.Sound.History.{IsHistory, logged_part}
use Rattle.wp_core.specs.Sound.Prepared.{IsCache, AreUndecided, AreDelayed}
use Rattle.wp_core.specs.Sound.Store.{IsStored}
use Rattle.wp_core.specs.Sound.Views.{IsNowhere, IsUndelayed}
use Rattle.wp_core.specs.IsSound.{IsSound}
use Rattle.wp_model.proofs.Entries.{entry_at_old, prepared_within}
use Rattle.wp_core.proofs.HistoryLaws.{decision_was, decision_within, decided_by_last, first_legal, decided_late}
use Rattle.wp_core.proofs.PendingSteps.{with_pending, pending_changes, none_logged, so_pending}
use Rattle.wp_model.proofs.Tests.{either, none_some}
use Rattle.wp_core.proofs.Quiet.{notes_by}

-- ---- the cache has pairs of the history alone

-- what is decided with the pending entry, and is not its pair, is decided without it
decided_without : (history pending : List Entry) (p c : ℕ) → IsLegal (history ++ pending) → (pending_pair history pending ≡ Some (commit_pair p c) → ⊥) → decision_of (extended history pending) p ≡ Some c → decision_of history p ≡ Some c
decided_without history [] p c legal apart e = e
decided_without history (entry ∷ others) p c legal apart e =
    let one = first_legal history entry others legal in
    let most = decision_within (history ++ entry ∷ []) p c e in
    let low = decided_late (history ++ entry ∷ []) p c one e in
    elim (cases_lt (length history) c) [
      | inl past ↦
          let is : c ≡ suc (length history) = omega (arith, length-append history (entry ∷ [])) in
          absurd (apart (decided_by_last history entry p (e ∙ ap Some is) ∙ ap (λ (d : ℕ). Some (commit_pair p d)) (sym is)))
      | inr within ↦ decision_was history (entry ∷ []) p c (omega arith) within e
    ]

cached_at : (w : World) (i : ℕ) (q : CommitPair) → cache_place (length w.cache) q.number ≡ i → pair_at w.cache i ≡ Some q → cached w.cache q.number ≡ Some q.decision
cached_at w i q placed there = ap (decision_if q.number) (ap (pair_at w.cache) placed ∙ there) ∙ ap (λ (b : Bool). cond b (Some q.decision) None) (eq-eqb q.number q.number refl)

cache_dropped : (w : World) → ((pair : CommitPair) → pending_pair w.writes.history w.writes.pending ≡ Some pair → cached w.cache pair.number ≢ Some pair.decision) → IsSound w → IsCache w.writes.history [] w.cache
cache_dropped w gone s = record {
  some = s.cache.some;
  empty = s.cache.empty;
  pairs = λ i q lt there. let k = s.cache.pairs i q lt there in
      record { placed = k.placed; decided = decided_without w.writes.history w.writes.pending q.number q.decision s.history.legal_next (λ is. gone q is (cached_at w i q k.placed there)) k.decided };
}

-- ---- the prepared sets have numbers of the history alone

delayed_dropped : (w : World) → IsUndelayed w.writes w.prepared → IsSound w → AreDelayed w.writes.history [] w.prepared w.cache
delayed_dropped w gone s = record {
  found = s.delayed.found;
  commits = λ p c e. decided_without w.writes.history w.writes.pending p c s.history.legal_next (λ is. gone (commit_pair p c) is e) (s.delayed.commits p c e);
}

prepare_without : (history pending : List Entry) (p : ℕ) → p ≢ suc (length history) → is_prepare (entry_at (extended history pending) p) ≡ true → is_prepare (entry_at history p) ≡ true
prepare_without history [] p ne is = is
prepare_without history (entry ∷ others) p ne is =
    let most = (prepared_within (history ++ entry ∷ []) p is).1 in
    elim (cases_lt (length history) p) [
      | inl past ↦ absurd (ne (omega (arith, length-append history (entry ∷ []))))
      | inr within ↦ ap is_prepare (sym (entry_at_old history (entry ∷ []) p within)) ∙ is
    ]

undecided_dropped : (w : World) → finset.contains w.prepared.heap (suc (length w.writes.history)) ≡ false → IsSound w → AreUndecided w.writes.history [] w.prepared w.max_evicted
undecided_dropped w gone s = record {
  found = s.undecided.found;
  heap_above = s.undecided.heap_above;
  delayed_passed = s.undecided.delayed_passed;
  known = λ p there. prepare_without w.writes.history w.writes.pending p (not_next p there) (s.undecided.known p there);
}
  where
    not_next : (p : ℕ) → (finset.contains w.prepared.heap p || finset.contains w.prepared.delayed p) ≡ true → p ≢ suc (length w.writes.history)
    not_next p there e =
        ⊎_elim (λ (h : finset.contains w.prepared.heap p ≡ true). true≢false (sym h ∙ (ap (finset.contains w.prepared.heap) e ∙ gone)))
        (λ (d : finset.contains w.prepared.delayed p ≡ true). let low = s.undecided.delayed_passed p d in let most = s.history.bounded in absurd (omega arith))
        (either (finset.contains w.prepared.heap p) (finset.contains w.prepared.delayed p) there)

-- ---- the others

history_dropped : (w : World) → w.writes.logged ≡ false → IsSound w → IsHistory w.opened (with_pending w.writes [] w.writes.logged w.writes.log) w.max_evicted
history_dropped w not_logged s = record {
  legal = s.history.legal;
  grown = s.history.grown;
  bounded = s.history.bounded;
  log = s.history.log ∙ (ap (λ (b : Bool). w.writes.history ++ logged_part b w.writes.pending) not_logged ∙ sym (ap (λ (z : List Entry). w.writes.history ++ z) (none_logged w.writes.logged)));
  rest = inl refl;
  legal_next = subst IsLegal (sym (append-nil w.writes.history)) s.history.legal;
  legal_failed = s.history.legal_failed;
  none_failed = s.history.none_failed;
  not_stopped = s.history.not_stopped;
  undo_closes = λ p undone. let k = s.history.undo_closes p undone in absurd (true≢false (sym k.1 ∙ not_logged));
}

stored_dropped : (w : World) → IsNowhere w.writes w.store → IsSound w → IsStored w.writes.history [] w.first_edit.segment.base w.snapshots w.store w.installed
stored_dropped w nowhere s =
    let o = s.versions in record {
      covered = o.covered;
      based = o.based;
      floor = o.floor;
      next = λ key p value lt there. let k = o.next key p value lt there in absurd (none_some (version_at w.store.memory key p) value (ap (version_at w.store.memory key) k.0 ∙ nowhere key) there);
      tables = o.tables;
      last = o.last;
      failed = o.failed;
      in_memory = o.in_memory;
    }

pub drops_pending : (w : World) (by : ℕ) (a : Actor) → get_elem? w.actors by ≡ some a → Needs w by a drop_pending → IsSound w → IsSound (done w by (forgets w.writes.history (length w.cache) drop_pending a) drop_pending)
drops_pending w by a at n s =
    pending_changes w by a drop_pending [] w.writes.logged w.writes.log at n.0 (history_dropped w n.1 s) (cache_dropped w n.2 s) (undecided_dropped w n.5 s) (delayed_dropped w n.3 s) (stored_dropped w n.4 s)
    (record { log = s.faults.log; tables = s.faults.tables; not_logged = λ closed. inl refl; stopped = s.faults.stopped; based = s.faults.based; failed = s.faults.failed; renewing = s.faults.renewing; of_log = s.faults.of_log; behind = s.faults.behind; unfailed = s.faults.unfailed }) (λ segment is running. refl)
    (notes_by w by drop_pending write_turn _ n.0 (so_pending w drop_pending [] w.writes.log w.writes.logged refl refl refl)) s
