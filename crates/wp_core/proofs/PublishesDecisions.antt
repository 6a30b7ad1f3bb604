-- The pending entry joins the history: the cache, what is decided and undecided, and the prepared sets.
use Rattle.std.proofs.Common.{◌≡◌, ◌⊎◌, ⊎_elim, inl, inr, ℕ, suc, ◌||◌, Bool, true, true≢false, List, [], ◌∷◌, ◌++◌, length, sym, ap, ◌∙◌, Some}
use Rattle.std.specs.Ordering.{nat_cmp}
use Rattle.std.specs.FinSet as set
use Rattle.std.specs.FinMap as finite
use Rattle.wp_model.specs.declared.entry.Entry.{Entry}
use Rattle.wp_model.specs.declared.entry.Entry.TheVariants.{Write, Prepare, Commit, Undo, Close}
use Rattle.wp_model.specs.History.{entry_at, is_prepare}
use Rattle.wp_model.specs.Legal.{IsLegal}
use Rattle.wp_model.specs.Decision.{decision_of}
use Rattle.wp_model.specs.PreparedSets.{PreparedSets, is_prepared}
use Rattle.wp_model.specs.Snapshots.{Snapshots}
use Rattle.wp_judge.specs.Words.{CommitPair, commit_pair}
use Rattle.wp_core.specs.Cache.{cached}
use Rattle.wp_core.specs.Conditions.{IsPrepare}
use Rattle.wp_core.specs.Entries.{pair_by, extended}
use Rattle.wp_core.specs.Sound.Prepared.{IsCache, AreDecided, AreUndecided, AreDelayed, IsWide, IsEntered}
use Rattle.wp_core.proofs.HistoryGrows.{decided_before_or_now, undecided_before_or_now}
use Rattle.wp_core.proofs.HistoryLaws.{decision_stays}
use Rattle.wp_core.proofs.PendingSteps.{prepare_stays}
use Rattle.wp_core.proofs.ReaderFacts.{extended_stays}

pub prepare_is : (entry : Entry) → is_prepare (Some entry) ≡ true → IsPrepare entry
prepare_is (Prepare name batch) is = tt
prepare_is (Write batch) is = absurd (true≢false (sym is))
prepare_is (Commit p) is = absurd (true≢false (sym is))
prepare_is (Undo p batch) is = absurd (true≢false (sym is))
prepare_is (Close p) is = absurd (true≢false (sym is))

module _ (history : List Entry) (entry : Entry) (others : List Entry) (legal : IsLegal (history ++ entry ∷ [])) where
  abbrev grown : List Entry
  grown = history ++ entry ∷ []

  abbrev next : ℕ
  next = suc (length history)

  -- the entry's pair is where a reader finds it
  abbrev pub IsPaired : List ℕ → finite.FinMap nat_cmp ℕ → ℕ → Type 0
  IsPaired cache commits max = (pair : CommitPair) → pair_by next entry ≡ Some pair → IsEntered cache commits max pair

  pub cache_part : (pending : List Entry) (cache : List ℕ) → pending ≡ entry ∷ others → IsCache history pending cache → IsCache grown others cache
  cache_part pending cache is k = record {
    some = k.some;
    empty = k.empty;
    pairs = λ i pair lt there. let p = k.pairs i pair lt there in
        record { placed = p.placed; decided = extended_stays grown others pair.number pair.decision (ap (λ (z : List Entry). decision_of (extended history z) pair.number) (sym is) ∙ p.decided) };
  }

  pub decided_part : (cache : List ℕ) (commits : finite.FinMap nat_cmp ℕ) (max : ℕ) (snapshots : Snapshots) → IsPaired cache commits max → AreDecided history cache commits max snapshots → AreDecided grown cache commits max snapshots
  decided_part cache commits max snapshots pair k = record {
    found = λ p c e. ⊎_elim (λ (d : decision_of history p ≡ Some c). k.found p c d) (λ d. inl (pair (commit_pair p c) d.1)) (decided_before_or_now history entry legal p c e);
    kept = λ s p there. let o = k.kept s p there in (o.0, decision_stays history (entry ∷ []) p o.0 o.1, o.2, o.3);
  }

  pub undecided_part : (pending : List Entry) (t : PreparedSets) (max : ℕ) → pending ≡ entry ∷ others → (IsPrepare entry → set.contains t.heap next ≡ true) → AreUndecided history pending t max → AreUndecided grown others t max
  undecided_part pending t max is number k = record {
    found = λ p u. ⊎_elim
        (λ o. k.found p o.1)
        (λ (o : (p ≡ next) × (is_prepare (Some entry) ≡ true)). ap (is_prepared t) o.0 ∙ ap (λ (b : Bool). b || set.contains t.delayed next) (number (prepare_is entry o.1)))
        (undecided_before_or_now history entry legal p u);
    heap_above = k.heap_above;
    delayed_passed = k.delayed_passed;
    known = λ p there. prepare_stays grown others p (ap (λ (z : List Entry). is_prepare (entry_at (extended history z) p)) (sym is) ∙ k.known p there);
  }

  pub delayed_part : (pending : List Entry) (t : PreparedSets) (cache : List ℕ) (max : ℕ) → pending ≡ entry ∷ others → IsPaired cache t.delayed_commits max → AreDelayed history pending t cache → AreDelayed grown others t cache
  delayed_part pending t cache max is pair k = record {
    found = λ p c there e. ⊎_elim (λ (d : decision_of history p ≡ Some c). k.found p c there d) (λ d. by_place p c (pair (commit_pair p c) d.1)) (decided_before_or_now history entry legal p c e);
    commits = λ p c e. extended_stays grown others p c (ap (λ (z : List Entry). decision_of (extended history z) p) (sym is) ∙ k.commits p c e);
  }
    where
      by_place : (p c : ℕ) → IsEntered cache t.delayed_commits max (commit_pair p c) → (cached cache p ≡ Some c) ⊎ (finite.get t.delayed_commits p ≡ Some c)
      by_place p c e = ⊎_elim (λ (there : cached cache p ≡ Some c). inl there) (λ (x : IsWide (length cache) t.delayed_commits max (commit_pair p c)). inr x.delayed) e
