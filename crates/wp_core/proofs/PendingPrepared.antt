-- The number of a pending Prepare comes into the prepared heap, or goes out of it, soundly.
use Rattle.std.proofs.Common.{◌≡◌, ◌≢◌, inl, inr, ⊎_elim, ℕ, suc, ◌+◌, ◌||◌, true, false, true≢false, List, [], ◌∷◌, ◌++◌, length, sym, subst, ap, ◌∙◌, Some, arith, nat_cmp}
use mathlib.Core.Option.{some}
use mathlib.Core.Logic.{dite}
use native.Mathlib.Decide.{ℕ_discrete}
use lib.ListN.{get_elem?}
use Rattle.std.specs.FinSet as finset
use Rattle.std.specs.FinMap as finite
use Rattle.wp_model.specs.declared.change.Change.{Change}
use Rattle.wp_model.specs.declared.entry.Entry.{Entry}
use Rattle.wp_model.specs.declared.entry.Entry.TheVariants.{Prepare}
use Rattle.wp_model.specs.Decision.{decision_of}
use Rattle.wp_model.specs.History.{entry_at, is_prepare, is_undecided}
use Rattle.wp_model.specs.PreparedSets.{PreparedSets, is_prepared}
use Rattle.wp_judge.specs.Words.{CommitPair}
use Rattle.wp_core.specs.Entries.{extended}
use Rattle.wp_core.specs.Turns.{Holds, write_turn, prepared_turn}
use Rattle.wp_core.specs.Views.{Fact, apart, has_left, number_in_heap, number_not_in_heap, none_waits}
use Rattle.wp_core.specs.World.{Participant, Actor, World}
use Rattle.wp_core.specs.Steps.{add_prepared, take_pending_prepared}
use Rattle.wp_core.specs.Effects.{done}
use Rattle.wp_core.specs.Needs.{Needs}
use Rattle.wp_core.specs.Notes.{forgets}
use Rattle.wp_core.specs.Sound.Prepared.{AreFlags, AreUndecided, AreDelayed}
use Rattle.wp_core.specs.Sound.Views.{IsApart, HasLeft, IsClearing, NoneWaits}
use Rattle.wp_core.specs.IsSound.{IsSound}
use Rattle.wp_history_laws.proofs.Growth.{entry_at_next}
use Rattle.wp_model.proofs.Entries.{undecided_within}
use Rattle.wp_core.proofs.HistoryLaws.{decided_within}
use Rattle.wp_model.proofs.Numbers.{in_inserted, in_inserted_else, in_removed, in_removed_else}
use Rattle.wp_core.proofs.Quiet.{Stays, stays_not, notes_by, prepared_changes}
use Rattle.wp_core.proofs.PreparedSteps.{SoWith, clearing_decided}
use Rattle.wp_core.proofs.AllParts.{SoIn}
use Rattle.wp_model.proofs.Tests.{either}
use Rattle.wp_core.proofs.Gives.{not_free}

-- the heap has of other numbers than the next what it had
module _ (w : World) (s : IsSound w) (heap : finset.FinSet nat_cmp) (same : (p : ℕ) → p ≢ suc (length w.writes.history) → finset.contains heap p ≡ finset.contains w.prepared.heap p) where
  abbrev t : PreparedSets
  t = record w.prepared { heap = heap }

  prepared_else : (p : ℕ) → p ≢ suc (length w.writes.history) → is_prepared t p ≡ is_prepared w.prepared p
  prepared_else p ne = ap (λ b. b || finset.contains w.prepared.delayed p) (same p ne)

  decided_else : (p c : ℕ) → decision_of w.writes.history p ≡ Some c → is_prepared t p ≡ is_prepared w.prepared p
  decided_else p c e = let low = decided_within w.writes.history p c e in prepared_else p (λ q. absurd (omega (arith, q, low)))

  undecided_else : (p : ℕ) → is_undecided w.writes.history p ≡ true → is_prepared t p ≡ is_prepared w.prepared p
  undecided_else p u = let low = (undecided_within w.writes.history p u).1 in prepared_else p (λ q. absurd (omega (arith, q, low)))

  heap_undecided : ((p : ℕ) → p ≡ suc (length w.writes.history) → is_prepared t p ≡ true → is_prepare (entry_at (extended w.writes.history w.writes.pending) p) ≡ true) → AreUndecided w.writes.history w.writes.pending t w.max_evicted
  heap_undecided next = record {
    found = λ p u. undecided_else p u ∙ s.undecided.found p u;
    heap_above = λ p there.
        dite (ℕ_discrete p (suc (length w.writes.history)))
        (λ (e : p ≡ suc (length w.writes.history)). let low = s.history.bounded in omega arith)
        (λ (ne : p ≢ suc (length w.writes.history)). s.undecided.heap_above p (sym (same p ne) ∙ there));
    delayed_passed = s.undecided.delayed_passed;
    known = λ p there.
        dite (ℕ_discrete p (suc (length w.writes.history)))
        (λ (e : p ≡ suc (length w.writes.history)). next p e there)
        (λ (ne : p ≢ suc (length w.writes.history)). s.undecided.known p (sym (prepared_else p ne) ∙ there));
  }

  heap_delayed : AreDelayed w.writes.history w.writes.pending t w.cache
  heap_delayed = record { found = λ p c there decided. s.delayed.found p c (sym (decided_else p c decided) ∙ there) decided; commits = s.delayed.commits }

  heap_flags : (by : ℕ) → Holds w.holders prepared_turn by → AreFlags w.delayed_flag w.old_flag t w.snapshots w.holders.prepared w.holders.snapshots
  heap_flags by mine = record { none_delayed = s.flags.none_delayed; none_kept = s.flags.none_kept; delayed_free = λ free. absurd (not_free w.holders prepared_turn by mine free); old_free = s.flags.old_free }

  heap_apart : (place : ℕ) (pair : CommitPair) → IsClearing (length w.writes.history) w.cache place pair (IsApart w.prepared pair) → IsClearing (length w.writes.history) w.cache place pair (IsApart t pair)
  heap_apart place pair k = record {
    place_within = k.place_within;
    there = k.there;
    published_by = k.published_by;
    so = ⊎_elim
        (λ (e : is_prepared w.prepared pair.number ≡ false). inl (decided_else pair.number pair.decision (clearing_decided w place pair _ s k) ∙ e))
        (λ (e : finite.get w.prepared.delayed_commits pair.number ≡ Some pair.decision). inr e) k.so;
  }

  heap_waits : NoneWaits w.writes.history w.prepared w.cache w.max_evicted → NoneWaits w.writes.history t w.cache w.max_evicted
  heap_waits k p c there decided low = k p c (sym (decided_else p c decided) ∙ there) decided low

  heap_left : (p : ℕ) → HasLeft w.writes.history w.prepared p → HasLeft w.writes.history t p
  heap_left p k = (k.0, decided_else p k.0.0 k.0.1 ∙ k.1)

-- ---- it comes

module _ (w : World) (s : IsSound w) where
  abbrev more : finset.FinSet nat_cmp
  more = finset.insert w.prepared.heap (suc (length w.writes.history))

  more_else : (p : ℕ) → p ≢ suc (length w.writes.history) → finset.contains more p ≡ finset.contains w.prepared.heap p
  more_else p ne = in_inserted_else w.prepared.heap (suc (length w.writes.history)) p ne

  prepare_pending : (name : List ℕ) (batch : List Change) (others : List Entry) → w.writes.pending ≡ Prepare name batch ∷ others → is_prepare (entry_at (extended w.writes.history w.writes.pending) (suc (length w.writes.history))) ≡ true
  prepare_pending name batch others e =
      let h = w.writes.history in
      let at : entry_at (h ++ Prepare name batch ∷ []) (suc (length h)) ≡ Some (Prepare name batch) = subst (λ (n : ℕ). entry_at (h ++ Prepare name batch ∷ []) n ≡ Some (Prepare name batch)) (let q : length h + 1 ≡ suc (length h) = omega arith in q) (entry_at_next h (Prepare name batch)) in
      ap (λ (z : List Entry). is_prepare (entry_at (extended h z) (suc (length h)))) e ∙ ap is_prepare at

  so_with : (a : Participant) (fact : Fact) → Stays w add_prepared write_turn fact → SoIn w a fact → SoWith w (record w.prepared { heap = more }) a fact
  so_with a (apart place pair) stays k = heap_apart w s more more_else place pair k
  so_with a (has_left p) stays k = heap_left w s more more_else p k
  so_with a none_waits stays k = heap_waits w s more more_else k
  so_with a number_in_heap stays k = in_inserted w.prepared.heap (suc (length w.writes.history))
  so_with a number_not_in_heap stays k = absurd (stays_not write_turn stays)
  so_with a fact stays k = k

pub adds_prepared : (w : World) (by : ℕ) (a : Actor) → get_elem? w.actors by ≡ some a → Needs w by a add_prepared → IsSound w → IsSound (done w by (forgets w.writes.history (length w.cache) add_prepared a) add_prepared)
adds_prepared w by a at n s =
    prepared_changes w by a add_prepared (record w.prepared { heap = more w s }) at n.1 s.decided
    (heap_undecided w s (more w s) (more_else w s) (λ p e there. ap (λ (m : ℕ). is_prepare (entry_at (extended w.writes.history w.writes.pending) m)) e ∙ prepare_pending w s n.2.0 n.2.1 n.2.2 n.2.3))
    (heap_delayed w s (more w s) (more_else w s)) (heap_flags w s (more w s) (more_else w s) by n.1) s.readers
    (notes_by w by add_prepared write_turn _ n.0 (so_with w s)) s

-- ---- it goes

module _ (w : World) (s : IsSound w) where
  abbrev less : finset.FinSet nat_cmp
  less = finset.remove w.prepared.heap (suc (length w.writes.history))

  less_else : (p : ℕ) → p ≢ suc (length w.writes.history) → finset.contains less p ≡ finset.contains w.prepared.heap p
  less_else p ne = in_removed_else w.prepared.heap (suc (length w.writes.history)) p ne

  next_gone : (p : ℕ) → p ≡ suc (length w.writes.history) → finset.contains less p ≡ false
  next_gone p e = ap (finset.contains less) e ∙ in_removed w.prepared.heap (suc (length w.writes.history))

  -- the next number is in no other set, for the delayed ones are passed
  none_next : (p : ℕ) → p ≡ suc (length w.writes.history) → is_prepared (record w.prepared { heap = less }) p ≡ true → is_prepare (entry_at (extended w.writes.history w.writes.pending) p) ≡ true
  none_next p e there =
      ⊎_elim (λ (q : finset.contains less p ≡ true). absurd (true≢false (sym q ∙ next_gone p e)))
      (λ (q : finset.contains w.prepared.delayed p ≡ true). let low = s.undecided.delayed_passed p q in let bound = s.history.bounded in absurd (omega (arith, e, low, bound)))
      (either (finset.contains less p) (finset.contains w.prepared.delayed p) there)

  so_without : (a : Participant) (fact : Fact) → Stays w take_pending_prepared write_turn fact → SoIn w a fact → SoWith w (record w.prepared { heap = less }) a fact
  so_without a (apart place pair) stays k = heap_apart w s less less_else place pair k
  so_without a (has_left p) stays k = heap_left w s less less_else p k
  so_without a none_waits stays k = heap_waits w s less less_else k
  so_without a number_in_heap stays k = absurd (stays_not write_turn stays)
  so_without a number_not_in_heap stays k = in_removed w.prepared.heap (suc (length w.writes.history))
  so_without a fact stays k = k

pub takes_pending_prepared : (w : World) (by : ℕ) (a : Actor) → get_elem? w.actors by ≡ some a → Needs w by a take_pending_prepared → IsSound w → IsSound (done w by (forgets w.writes.history (length w.cache) take_pending_prepared a) take_pending_prepared)
takes_pending_prepared w by a at n s =
    prepared_changes w by a take_pending_prepared (record w.prepared { heap = less w s }) at n.1 s.decided (heap_undecided w s (less w s) (less_else w s) (none_next w s))
    (heap_delayed w s (less w s) (less_else w s)) (heap_flags w s (less w s) (less_else w s) by n.1) s.readers
    (notes_by w by take_pending_prepared write_turn _ n.0 (so_without w s)) s
