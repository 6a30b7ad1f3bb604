-- Storing the bound keeps every part of a sound world.
use Rattle.std.proofs.Common.{◌≡◌, ◌≢◌, ◌⊎◌, ⊎_elim, inl, inr, ℕ, suc, ◌<◌, ◌≤◌, nat_le, le_trans, arith, Bool, true, false, not, ◌||◌, ◌&&◌, List, length, refl, sym, ap, ◌∙◌, Some, None}
use mathlib.Core.Option.{some}
use lib.ListN.{get_elem?}
use Rattle.wp_core.specs.Turns.{Holds, write_turn, prepared_turn}
use Rattle.wp_core.specs.Views.{Fact, passed, apart, words_stay, has_left, none_waits, number_in_heap, number_not_in_heap}
use Rattle.wp_core.specs.World.{Actor, Participant, World}
use Rattle.wp_core.specs.Steps.{store_max_evicted}
use Rattle.wp_core.specs.Effects.{done}
use Rattle.wp_core.specs.Needs.{Needs}
use Rattle.wp_core.specs.Notes.{forgets}
use Rattle.wp_core.specs.Sound.Prepared.{AreFlags, AreDecided, AreUndecided, AreDelayed, IsPassed, IsWide, IsEntered}
use Rattle.wp_core.specs.Sound.Views.{IsSo}
use Rattle.wp_core.specs.IsSound.{IsSound}
use Rattle.wp_core.proofs.Quiet.{Stays, stays_not, notes_by, bound_changes}
use Rattle.std.proofs.lemmas.Bool.Decides.{nat_tests}
use Rattle.std.specs.Ordering.{nat_cmp}
use Rattle.std.specs.declared.cmp.Ordering.TheVariants.{Equal}
use Rattle.std.specs.Cmp.{nat_cmp_total}
use Rattle.std.specs.FinSet as finset
use Rattle.std.specs.FinSet.{nat_cmp-IsAntisymmetric}
use Rattle.std.specs.FinMap as finite
use Rattle.wp_core.specs.Cache.{cached}
use Rattle.wp_core.specs.Reading.{Registration}
use Rattle.wp_judge.specs.declared.observed.Observed.{Observed}
use Rattle.wp_judge.specs.Words.{CommitPair, commit_pair}
use Rattle.wp_model.specs.PreparedSets.{PreparedSets, is_prepared, NoneDelayed}
use Rattle.wp_model.specs.Snapshots.{is_old_commit}
use Rattle.wp_core.specs.States.{with_moved}
use Rattle.wp_core.specs.Sound.History.{IsHistory}
use Rattle.wp_core.specs.Sound.Reader.{IsPassedBy, IsReachedBy, AnswersFor, IsReader}
use Rattle.wp_model.proofs.Tests.{both, either}

-- ---- the moved numbers

same_test : (p : ℕ → Bool) (q x : ℕ) → nat_cmp q x ≡ Equal → p x ≡ p q
same_test p q x e = ap p (sym (nat_cmp-IsAntisymmetric q x e))

in_heap : (t : PreparedSets) (m p : ℕ) → finset.contains (with_moved t m).heap p ≡ (finset.contains t.heap p && not (nat_le p m))
in_heap t m p = finset.contains-retain t.heap (λ q. not (nat_le q m)) p (same_test (λ q. not (nat_le q m)) p)

in_delayed : (t : PreparedSets) (m p : ℕ) → finset.contains (with_moved t m).delayed p ≡ (finset.contains t.delayed p || (finset.contains t.heap p && nat_le p m))
in_delayed t m p = finset.contains-union nat_cmp_total t.delayed (finset.retain t.heap (λ q. nat_le q m)) p ∙ ap (λ (b : Bool). finset.contains t.delayed p || b) (finset.contains-retain t.heap (λ q. nat_le q m) p (same_test (λ q. nat_le q m) p))

split_or : (h d l : Bool) → ((h && not l) || (d || (h && l))) ≡ (h || d)
split_or true true true = refl
split_or true true false = refl
split_or true false true = refl
split_or true false false = refl
split_or false true l = refl
split_or false false l = refl

-- no number comes or goes
same_prepared : (t : PreparedSets) (m p : ℕ) → is_prepared (with_moved t m) p ≡ is_prepared t p
same_prepared t m p = (λ i. in_heap t m p i || in_delayed t m p i) ∙ split_or (finset.contains t.heap p) (finset.contains t.delayed p) (nat_le p m)

not_below : (p m : ℕ) → not (nat_le p m) ≡ true → m < p
not_below p m e = grind (arith, nat_tests)

below : (p m : ℕ) → nat_le p m ≡ true → p ≤ m
below p m e = grind (arith, nat_tests)

above_is : (p m : ℕ) → m < p → nat_le p m ≡ false
above_is p m lt = grind (arith, nat_tests)

-- ---- parts

-- a pair is where it was
entered_after : (w : World) (m : ℕ) → w.max_evicted ≤ m → (pair : CommitPair) → IsEntered w.cache w.prepared.delayed_commits w.max_evicted pair → IsEntered w.cache w.prepared.delayed_commits m pair
entered_after w m le pair e =
    ⊎_elim (λ (there : cached w.cache pair.number ≡ Some pair.decision). inl there)
    (λ (x : IsWide (length w.cache) w.prepared.delayed_commits w.max_evicted pair). inr (record { wide = x.wide; delayed = x.delayed; reached = le_trans x.reached le })) e

undecided_after : (w : World) (m : ℕ) → w.max_evicted ≤ m → AreUndecided w.writes.history w.writes.pending w.prepared w.max_evicted → AreUndecided w.writes.history w.writes.pending (with_moved w.prepared m) m
undecided_after w m le u = record {
  found = λ p open_at. same_prepared w.prepared m p ∙ u.found p open_at;
  heap_above = λ p there. not_below p m (both (finset.contains w.prepared.heap p) (not (nat_le p m)) (sym (in_heap w.prepared m p) ∙ there)).1;
  delayed_passed = λ p there. ⊎_elim (λ (d : finset.contains w.prepared.delayed p ≡ true). le_trans (u.delayed_passed p d) le) (λ (d : (finset.contains w.prepared.heap p && nat_le p m) ≡ true). below p m (both (finset.contains w.prepared.heap p) (nat_le p m) d).1)
      (either (finset.contains w.prepared.delayed p) (finset.contains w.prepared.heap p && nat_le p m) (sym (in_delayed w.prepared m p) ∙ there));
  known = λ p there. u.known p (sym (same_prepared w.prepared m p) ∙ there);
}

delayed_after : (w : World) (m : ℕ) → AreDelayed w.writes.history w.writes.pending w.prepared w.cache → AreDelayed w.writes.history w.writes.pending (with_moved w.prepared m) w.cache
delayed_after w m d = record { found = λ p c there decided. d.found p c (sym (same_prepared w.prepared m p) ∙ there) decided; commits = d.commits }

decided_after : (w : World) (m : ℕ) → w.max_evicted ≤ m → AreDecided w.writes.history w.cache w.prepared.delayed_commits w.max_evicted w.snapshots → AreDecided w.writes.history w.cache w.prepared.delayed_commits m w.snapshots
decided_after w m le d = record {
  found = λ p c decided. ⊎_elim
      (λ (e : IsEntered w.cache w.prepared.delayed_commits w.max_evicted (commit_pair p c)). inl (entered_after w m le (commit_pair p c) e))
      (λ (e : IsPassed w.max_evicted w.snapshots p c). inr (le_trans e.0 le, e.1)) (d.found p c decided);
  kept = d.kept;
}

history_after : (w : World) (m : ℕ) → m ≤ length w.writes.history → IsHistory w.opened w.writes w.max_evicted → IsHistory w.opened w.writes m
history_after w m le h = record { legal = h.legal; grown = h.grown; bounded = le; log = h.log; rest = h.rest; legal_next = h.legal_next; legal_failed = h.legal_failed; none_failed = h.none_failed; not_stopped = h.not_stopped; undo_closes = h.undo_closes }

none_moves : (h l : Bool) → (h ≡ true → l ≡ false) → (h && l) ≡ false
none_moves true l e = e refl
none_moves false l e = refl

-- where nothing moves, what was not delayed is not
none_delayed_after : (w : World) (m : ℕ) → ((p : ℕ) → finset.contains w.prepared.heap p ≡ true → m < p) → NoneDelayed w.prepared → NoneDelayed (with_moved w.prepared m)
none_delayed_after w m none k = ((λ q. in_delayed w.prepared m q ∙ (λ i. k.0 q i || none_moves (finset.contains w.prepared.heap q) (nat_le q m) (λ there. above_is q m (none q there)) i)), k.1)

flags_after : (w : World) (m by : ℕ) → Holds w.holders prepared_turn by → ((w.delayed_flag ≢ 0) ⊎ ((p : ℕ) → finset.contains w.prepared.heap p ≡ true → m < p))
    → AreFlags w.delayed_flag w.old_flag w.prepared w.snapshots w.holders.prepared w.holders.snapshots → AreFlags w.delayed_flag w.old_flag (with_moved w.prepared m) w.snapshots w.holders.prepared w.holders.snapshots
flags_after w m by mine may f = record {
  none_delayed = λ zero_flag. ⊎_elim (λ (ne : w.delayed_flag ≢ 0). absurd (ne zero_flag)) (λ (none : (p : ℕ) → finset.contains w.prepared.heap p ≡ true → m < p). none_delayed_after w m none (f.none_delayed zero_flag)) may;
  none_kept = f.none_kept;
  delayed_free = λ free. let q : Some by ≡ None = sym mine ∙ free in absurd (cc);
  old_free = f.old_free;
}

-- ---- readers

passed_after : (w : World) (m : ℕ) (p : ℕ) → w.max_evicted ≤ m → IsPassedBy w.writes.history w.max_evicted w.cache p → IsPassedBy w.writes.history m w.cache p
passed_after w m p le k = record { by = k.by; decided = k.decided; within = le_trans k.within le; gone = k.gone }

reached_after : (w : World) (m : ℕ) (p : ℕ) → w.max_evicted ≤ m → IsReachedBy w.writes.history w.max_evicted w.cache w.prepared.delayed_commits p → IsReachedBy w.writes.history m w.cache w.prepared.delayed_commits p
reached_after w m p le k = record {
  by = k.by;
  decided = k.decided;
  reached = le_trans k.reached le;
  elsewhere = ⊎_elim (λ (low : k.by ≤ w.max_evicted). inl (le_trans low le)) (λ (e : finite.get w.prepared.delayed_commits p ≡ Some k.by). inr e) k.elsewhere;
  gone = k.gone;
}

answers_after : (w : World) (m s p c : ℕ) → w.max_evicted ≤ m → AnswersFor w.max_evicted w.cache w.snapshots s p c → AnswersFor m w.cache w.snapshots s p c
answers_after w m s p c le k =
    ⊎_elim (λ (there : cached w.cache p ≡ Some c). inl there) (λ (x : (c ≤ w.max_evicted) × (s < c → is_old_commit w.snapshots s p ≡ true)). inr (le_trans x.0 le, x.1)) k

reader_after : (w : World) (m : ℕ) (rs : List Registration) (r : Observed) → w.max_evicted ≤ m → IsReader w.writes.history w.max_evicted w.cache w.prepared.delayed_commits w.snapshots rs r → IsReader w.writes.history m w.cache w.prepared.delayed_commits w.snapshots rs r
reader_after w m rs r le k = record {
  words = k.words;
  registered_at = k.registered_at;
  in_order = k.in_order;
  knows = λ low. let o = k.knows low in record {
    version = o.version;
    first_word = λ word e another is. reached_after w m r.version le (o.first_word word e another is);
    first_max = λ n e. le_trans (o.first_max n e) le;
    not_in_prepared = λ n. let d = o.not_in_prepared n in (d.0, d.1, answers_after w m r.snapshot r.version d.0 le d.2);
    second_word = λ word e another. passed_after w m r.version le (o.second_word word e another);
    second_max = o.second_max;
  };
}

-- ---- notes

so_after : (w : World) (m : ℕ) (a : Participant) (fact : Fact) → w.max_evicted ≤ m → m ≤ length w.writes.history → Stays w (store_max_evicted m) write_turn fact → IsSo w.delayed_flag w.old_flag w.max_evicted w.cache w.writes w.prepared w.snapshots w.store w.locks w.installed a fact
    → IsSo w.delayed_flag w.old_flag m w.cache w.writes (with_moved w.prepared m) w.snapshots w.store w.locks w.installed a fact
so_after w m a (passed place pair) le low stays k = record { place_within = k.place_within; there = k.there; published_by = k.published_by; so = le_trans k.so le }
so_after w m a (apart place pair) le low stays k = record { place_within = k.place_within; there = k.there; published_by = k.published_by; so = ⊎_elim (λ (e : is_prepared w.prepared pair.number ≡ false). inl (same_prepared w.prepared m pair.number ∙ e)) (λ (e : finite.get w.prepared.delayed_commits pair.number ≡ Some pair.decision). inr e) k.so }
so_after w m a (words_stay max cache) le low stays k = absurd (stays_not write_turn stays)
so_after w m a none_waits le low stays k = absurd (stays_not write_turn stays)
so_after w m a (has_left p) le low stays k = (k.0, same_prepared w.prepared m p ∙ k.1)
so_after w m a number_in_heap le low stays k = let n : ℕ = suc (length w.writes.history) in in_heap w.prepared m n ∙ (λ i. k i && not (above_is n m (omega arith) i))
so_after w m a number_not_in_heap le low stays k = let n : ℕ = suc (length w.writes.history) in in_heap w.prepared m n ∙ (λ i. k i && not (nat_le n m))
so_after w m a fact le low stays k = k

-- ---- all parts

pub stores_max : (w : World) (by : ℕ) (a : Actor) (m : ℕ) → get_elem? w.actors by ≡ some a → Needs w by a (store_max_evicted m) → IsSound w → IsSound (done w by (forgets w.writes.history (length w.cache) (store_max_evicted m) a) (store_max_evicted m))
stores_max w by a m at n s =
    bound_changes w by a (store_max_evicted m) m (with_moved w.prepared m) at n.1 (history_after w m n.3 s.history) (decided_after w m n.2 s.decided) (undecided_after w m n.2 s.undecided) (delayed_after w m s.delayed)
    (flags_after w m by n.1 n.4 s.flags) (λ j x there r is. reader_after w m x.0 r n.2 (s.readers j x there r is))
    (notes_by w by (store_max_evicted m) write_turn _ n.0 (λ p fact stays k. so_after w m p fact n.2 n.3 stays k)) s
