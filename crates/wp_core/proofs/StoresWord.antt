-- Storing a word of the commit cache keeps a world sound: what is evicted is passed, and noted where it has to be.
use Rattle.std.proofs.Common.{◌≡◌, ◌≢◌, inl, inr, ⊎_elim, ℕ, suc, ◌<◌, ◌≤◌, ◌==◌, eq-eqb, Bool, true, false, true≢false, not, cond, List, [], ◌∷◌, ◌++◌, length, slice_index, refl, sym, subst, ap, ◌∙◌, Option, Some, None, mod-lt, length-append, arith, map}
use Rattle.std.proofs.lemmas.Bool.Decides.{nat_tests}
use Rattle.std.proofs.lemmas.List.{get_or-set_same, get_or-set_other, length-set}
use mathlib.Core.Option.{some}
use mathlib.Core.Logic.{dite}
use native.Mathlib.Decide.{ℕ_discrete}
use lib.ListN.{get_elem?}
use Rattle.std.specs.FinMap as finite
use Rattle.wp_model.specs.declared.entry.Entry.{Entry}
use Rattle.wp_model.specs.Decision.{decision_of}
use Rattle.wp_model.specs.Legal.{IsLegal, log_end}
use Rattle.wp_model.specs.PreparedSets.{is_prepared}
use Rattle.wp_model.specs.Snapshots.{IsLive, is_old_commit}
use Rattle.wp_judge.specs.Words.{CommitPair, commit_pair, word_of, pair_of, decision_if, seq_end}
use Rattle.wp_judge.proofs.Packing.{pair_back}
use Rattle.wp_judge.specs.declared.observed.Observed.{Observed}
use Rattle.wp_core.specs.Cache.{cache_place, pair_at, cached, with_pair}
use Rattle.wp_core.specs.Entries.{extended, pending_pair}
use Rattle.wp_core.specs.Reading.{Registration, snapshot_of}
use Rattle.wp_core.specs.Conditions.{MayBeEvicted}
use Rattle.wp_core.specs.Turns.{Holds, write_turn}
use Rattle.wp_core.specs.Views.{Fact, passed, in_old_commits, apart, words_stay, none_waits}
use Rattle.wp_core.specs.World.{Participant, Actor, World}
use Rattle.wp_core.specs.Steps.{store_word}
use Rattle.wp_core.specs.Effects.{done}
use Rattle.wp_core.specs.Needs.{Needs}
use Rattle.wp_core.specs.Notes.{forgets, ends}
use Rattle.wp_core.specs.Sound.Prepared.{IsPairAt, IsCache, AreDecided, AreDelayed, IsPassed, IsWide, IsEntered}
use Rattle.wp_core.specs.Sound.Reader.{IsPassedBy, IsReader, IsReachedBy, AnswersFor, reader_of}
use Rattle.wp_core.specs.Sound.Views.{IsSo, IsGuarded, IsClearing}
use Rattle.wp_core.specs.IsSound.{IsSound}
use Rattle.wp_core.specs.Lists.{IsIn}
use Rattle.wp_core.proofs.HistoryLaws.{IsDecidedNext, next_decides, first_legal, decision_within}
use Rattle.wp_core.proofs.ReaderFacts.{extended_stays}
use Rattle.wp_core.proofs.Quiet.{words_change}
use Rattle.wp_core.proofs.AllParts.{SoIn}
use Rattle.wp_model.proofs.Tests.{same_some, none_some}
use Rattle.wp_core.proofs.Gives.{not_theirs}
use Rattle.wp_core.proofs.Registered.{registered_live}
use Rattle.wp_core.proofs.KeepsRemembered.{from_map}

-- ---- pairs and words

-- what the cache has for a version is a pair of its place
cached_pair : (p c : ℕ) (o : Option CommitPair) → decision_if p o ≡ Some c → (pair : CommitPair) × (o ≡ Some pair) × (pair.number ≡ p) × (pair.decision ≡ c)
cached_pair p c None e = let no : None ≡ Some c = e in absurd (cc)
cached_pair p c (Some pair) e = by_number (pair.number == p) refl e
  where
    by_number : (b : Bool) → (pair.number == p) ≡ b → cond b (Some pair.decision) None ≡ Some c → (x : CommitPair) × (Some pair ≡ Some x) × (x.number ≡ p) × (x.decision ≡ c)
    by_number true is f = let n : ℕ = pair.number in let q : (n == p) ≡ true = is in let same : n ≡ p = grind (arith, nat_tests) in (pair, refl, same, same_some pair.decision c f)
    by_number false is f = let no : None ≡ Some c = f in absurd (cc)

not_of : (p : ℕ) (pair : CommitPair) → pair.number ≢ p → decision_if p (Some pair) ≡ None
not_of p pair ne = by_number (pair.number == p) refl
  where
    by_number : (b : Bool) → (pair.number == p) ≡ b → cond b (Some pair.decision) None ≡ None
    by_number true is = let n : ℕ = pair.number in let q : (n == p) ≡ true = is in let same : n ≡ p = grind (arith, nat_tests) in absurd (ne same)
    by_number false is = refl

module _ (w : World) (pair : CommitPair) (s : IsSound w) (next : decision_of (extended w.writes.history w.writes.pending) pair.number ≡ Some pair.decision) (last : pair.decision ≡ suc (length w.writes.history)) (back : pair_of (length w.cache) (cache_place (length w.cache) pair.number) (word_of (length w.cache) pair) ≡ Some pair) (may : (gone : CommitPair) → pair_at w.cache (cache_place (length w.cache) pair.number) ≡ Some gone → MayBeEvicted w gone) where
  after : List ℕ
  after = with_pair w.cache pair

  place : ℕ
  place = cache_place (length w.cache) pair.number

  same_length : length after ≡ length w.cache
  unfolding after
  same_length = length-set w.cache (cache_place (length w.cache) pair.number) (word_of (length w.cache) pair)

  here : slice_index after place ≡ word_of (length w.cache) pair
  unfolding after place
  here = get_or-set_same w.cache (cache_place (length w.cache) pair.number) (word_of (length w.cache) pair) _ (mod-lt pair.number s.cache.some)

  else_ : (i : ℕ) → i ≢ place → slice_index after i ≡ slice_index w.cache i
  unfolding after place
  else_ i ne = get_or-set_other w.cache (cache_place (length w.cache) pair.number) i (word_of (length w.cache) pair) _ ne

  pair_here : pair_at after place ≡ Some pair
  unfolding place
  pair_here = (λ i. pair_of (same_length i) place (here i)) ∙ back

  pair_else : (i : ℕ) → i ≢ place → pair_at after i ≡ pair_at w.cache i
  pair_else i ne = λ k. pair_of (same_length k) i (else_ i ne k)

  -- what the cache has for a version now
  cached_is : (p : ℕ) → cached after p ≡ decision_if p (pair_at after (cache_place (length w.cache) p))
  cached_is p = ap (λ (n : ℕ). decision_if p (pair_at after (cache_place n p))) same_length

  cached_else : (p : ℕ) → cache_place (length w.cache) p ≢ place → cached after p ≡ cached w.cache p
  cached_else p ne = cached_is p ∙ ap (decision_if p) (pair_else (cache_place (length w.cache) p) ne)

  cached_here : (p : ℕ) → cache_place (length w.cache) p ≡ place → cached after p ≡ decision_if p (Some pair)
  cached_here p e = cached_is p ∙ ap (decision_if p) (ap (pair_at after) e ∙ pair_here)

  -- what a version had in the word that goes may go
  may_go : (p c : ℕ) → cache_place (length w.cache) p ≡ place → cached w.cache p ≡ Some c → (gone : CommitPair) × (gone.number ≡ p) × (gone.decision ≡ c) × MayBeEvicted w gone
  unfolding place
  may_go p c e there =
      let k = cached_pair p c (pair_at w.cache (cache_place (length w.cache) p)) there in
      (k.0, k.2, k.3, may k.0 (ap (pair_at w.cache) (sym e) ∙ k.1))

  cache_after : IsCache w.writes.history w.writes.pending after
  unfolding place
  cache_after = record {
    some = subst (λ (n : ℕ). 1 ≤ n) (sym same_length) s.cache.some;
    empty = λ i lt none.
        dite (ℕ_discrete i place)
        (λ (e : i ≡ place). absurd (none_some (pair_at after place) pair (ap (pair_at after) (sym e) ∙ none) pair_here))
        (λ (ne : i ≢ place). else_ i ne ∙ s.cache.empty i (subst (λ (n : ℕ). i < n) same_length lt) (sym (pair_else i ne) ∙ none));
    pairs = λ i q lt there.
        dite (ℕ_discrete i place)
        (λ (e : i ≡ place). at_place i q e (same_some pair q (sym pair_here ∙ (ap (pair_at after) (sym e) ∙ there))))
        (λ (ne : i ≢ place). let k = s.cache.pairs i q (subst (λ (n : ℕ). i < n) same_length lt) (sym (pair_else i ne) ∙ there) in record { placed = ap (λ (n : ℕ). cache_place n q.number) same_length ∙ k.placed; decided = k.decided });
  }
    where
      at_place : (i : ℕ) (q : CommitPair) → i ≡ place → pair ≡ q → IsPairAt (extended w.writes.history w.writes.pending) (length after) i q
      at_place i q e same = subst (IsPairAt (extended w.writes.history w.writes.pending) (length after) i) same (record { placed = ap (λ (n : ℕ). cache_place n pair.number) same_length ∙ sym e; decided = next })

  decided_after : AreDecided w.writes.history after w.prepared.delayed_commits w.max_evicted w.snapshots
  decided_after = record {
    found = λ p c decided.
        ⊎_elim
        (λ (entered : IsEntered w.cache w.prepared.delayed_commits w.max_evicted (commit_pair p c)).
        ⊎_elim
        (λ (there : cached w.cache p ≡ Some c).
        dite (ℕ_discrete (cache_place (length w.cache) p) place)
        (λ (e : cache_place (length w.cache) p ≡ place). let k = may_go p c e there in
        inr (subst (λ (z : ℕ × ℕ). IsPassed w.max_evicted w.snapshots z.0 z.1) (λ i. (k.1 i, k.2 i)) (k.3.passed, k.3.kept)))
        (λ (ne : cache_place (length w.cache) p ≢ place). inl (inl (cached_else p ne ∙ there))))
        (λ (x : IsWide (length w.cache) w.prepared.delayed_commits w.max_evicted (commit_pair p c)).
        inl (inr (subst (λ (n : ℕ). IsWide n w.prepared.delayed_commits w.max_evicted (commit_pair p c)) (sym same_length) x))) entered)
        (λ (k : IsPassed w.max_evicted w.snapshots p c). inr k) (s.decided.found p c decided);
    kept = s.decided.kept;
  }

  delayed_after : AreDelayed w.writes.history w.writes.pending w.prepared after
  delayed_after = record {
    found = λ p c prepared decided.
        ⊎_elim
        (λ (there : cached w.cache p ≡ Some c).
        dite (ℕ_discrete (cache_place (length w.cache) p) place)
        (λ (e : cache_place (length w.cache) p ≡ place). let k = may_go p c e there in
        ⊎_elim
        (λ (none : is_prepared w.prepared k.0.number ≡ false). absurd (true≢false (sym prepared ∙ (ap (is_prepared w.prepared) (sym k.1) ∙ none))))
        (λ (commit : finite.get w.prepared.delayed_commits k.0.number ≡ Some k.0.decision). inr (ap (finite.get w.prepared.delayed_commits) (sym k.1) ∙ (commit ∙ ap Some k.2))) k.3.apart)
        (λ (ne : cache_place (length w.cache) p ≢ place). inl (cached_else p ne ∙ there)))
        (λ (k : finite.get w.prepared.delayed_commits p ≡ Some c). inr k) (s.delayed.found p c prepared decided);
    commits = s.delayed.commits;
  }

  -- the pair is of a version that is decided only now
  decided_is_not : (p c : ℕ) → decision_of w.writes.history p ≡ Some c → pair.number ≢ p
  decided_is_not p c decided e =
      let low = decision_within w.writes.history p c decided in
      let same : c ≡ pair.decision = same_some c pair.decision (sym (extended_stays w.writes.history w.writes.pending p c decided) ∙ (ap (decision_of (extended w.writes.history w.writes.pending)) (sym e) ∙ next)) in
      absurd (omega (arith, last))

  gone_after : (p c : ℕ) → decision_of w.writes.history p ≡ Some c → cached w.cache p ≡ None → cached after p ≡ None
  gone_after p c decided gone =
      dite (ℕ_discrete (cache_place (length w.cache) p) place)
      (λ (e : cache_place (length w.cache) p ≡ place). cached_here p e ∙ not_of p pair (decided_is_not p c decided))
      (λ (ne : cache_place (length w.cache) p ≢ place). cached_else p ne ∙ gone)

  passed_after : (p : ℕ) → IsPassedBy w.writes.history w.max_evicted w.cache p → IsPassedBy w.writes.history w.max_evicted after p
  passed_after p k = record { by = k.by; decided = k.decided; within = k.within; gone = gone_after p k.by k.decided k.gone }

  reached_after : (p : ℕ) → IsReachedBy w.writes.history w.max_evicted w.cache w.prepared.delayed_commits p → IsReachedBy w.writes.history w.max_evicted after w.prepared.delayed_commits p
  reached_after p k = record { by = k.by; decided = k.decided; reached = k.reached; elsewhere = k.elsewhere; gone = gone_after p k.by k.decided k.gone }

  -- what the word that goes answered for is passed
  answers_after : (n p c : ℕ) → IsLive w.snapshots n → p ≤ n → AnswersFor w.max_evicted w.cache w.snapshots n p c → AnswersFor w.max_evicted after w.snapshots n p c
  answers_after n p c live low k =
      ⊎_elim
      (λ (there : cached w.cache p ≡ Some c).
      dite (ℕ_discrete (cache_place (length w.cache) p) place)
      (λ (e : cache_place (length w.cache) p ≡ place). let g = may_go p c e there in
      let passed : IsPassed w.max_evicted w.snapshots p c = subst (λ (z : ℕ × ℕ). IsPassed w.max_evicted w.snapshots z.0 z.1) (λ i. (g.1 i, g.2 i)) (g.3.passed, g.3.kept) in
      inr (passed.0, λ (lt : n < c). passed.1 n live low lt))
      (λ (ne : cache_place (length w.cache) p ≢ place). inl (cached_else p ne ∙ there)))
      (λ (x : (c ≤ w.max_evicted) × (n < c → is_old_commit w.snapshots n p ≡ true)). inr x) k

  reader_after : (rs : List Registration) (r : Observed) → IsLive w.snapshots r.snapshot → IsReader w.writes.history w.max_evicted w.cache w.prepared.delayed_commits w.snapshots rs r → IsReader w.writes.history w.max_evicted after w.prepared.delayed_commits w.snapshots rs r
  reader_after rs r live k = record {
    words = k.words ∙ sym same_length;
    registered_at = k.registered_at;
    in_order = k.in_order;
    knows = λ low. let o = k.knows low in record {
      version = o.version;
      first_word = λ word e another is. reached_after r.version (o.first_word word e another is);
      first_max = o.first_max;
      not_in_prepared = λ n. let d = o.not_in_prepared n in (d.0, d.1, answers_after r.snapshot r.version d.0 live low d.2);
      second_word = λ word e another. passed_after r.version (o.second_word word e another);
      second_max = o.second_max;
    };
  }

  -- ---- notes

  SoAfter : Participant → Fact → Type 0
  SoAfter = IsSo w.delayed_flag w.old_flag w.max_evicted after w.writes w.prepared w.snapshots w.store w.locks w.installed

  clearing_after : (i : ℕ) (q : CommitPair) (why : Type 0) → i ≢ place → IsClearing (length w.writes.history) w.cache i q why → IsClearing (length w.writes.history) after i q why
  clearing_after i q why ne k = record { place_within = subst (λ (n : ℕ). i < n) (sym same_length) k.place_within; there = pair_else i ne ∙ k.there; published_by = k.published_by; so = k.so }

  other_place : (i : ℕ) → not (place == i) ≡ true → i ≢ place
  other_place i left e = true≢false (sym left ∙ ap not (eq-eqb place i (sym e)))

  mine_after : (p : Participant) (fact : Fact) → not (ends w.writes.history (length w.cache) (store_word pair) fact) ≡ true → SoIn w p fact → SoAfter p fact
  unfolding SoAfter place
  mine_after p (passed i q) left k = clearing_after i q _ (other_place i left) k
  mine_after p (in_old_commits i q) left k = clearing_after i q _ (other_place i left) k
  mine_after p (apart i q) left k = clearing_after i q _ (other_place i left) k
  mine_after p (words_stay max cache) left k = absurd (true≢false (sym left))
  mine_after p none_waits left k = absurd (true≢false (sym left))
  mine_after p fact left k = k

  others_after : (by j : ℕ) (p : Participant) (fact : Fact) → Holds w.holders write_turn by → j ≢ by → IsGuarded w.holders fact j → SoIn w p fact → SoAfter p fact
  unfolding SoAfter
  others_after by j p (passed i q) mine ne guard k = absurd (not_theirs w.holders write_turn by j mine ne (guard write_turn refl))
  others_after by j p (in_old_commits i q) mine ne guard k = absurd (not_theirs w.holders write_turn by j mine ne (guard write_turn refl))
  others_after by j p (apart i q) mine ne guard k = absurd (not_theirs w.holders write_turn by j mine ne (guard write_turn refl))
  others_after by j p (words_stay max cache) mine ne guard k = absurd (not_theirs w.holders write_turn by j mine ne (guard write_turn refl))
  others_after by j p none_waits mine ne guard k = absurd (not_theirs w.holders write_turn by j mine ne (guard write_turn refl))
  others_after by j p fact mine ne guard k = k

-- ---- the step

-- the pair of the pending entry
pub pending_next : (history pending : List Entry) (pair : CommitPair) → IsLegal (history ++ pending) → pending_pair history pending ≡ Some pair
    → (entry : Entry) × (extended history pending ≡ history ++ entry ∷ []) × IsDecidedNext history entry pair × (pair.decision < seq_end)
pending_next history [] pair legal e = let no : None ≡ Some pair = e in absurd (cc)
pending_next history (entry ∷ others) pair legal e =
    let one = first_legal history entry others legal in
    let k = next_decides history entry pair one e in
    (entry, refl, k, few history entry pair.decision one.few k.last)
  where
    few : (h : List Entry) (y : Entry) (d : ℕ) → length (h ++ y ∷ []) < log_end → d ≡ suc (length h) → d < seq_end
    few h y d lt is = let q = length-append h (y ∷ []) in omega (arith, q, is, lt)

-- who reads at a snapshot registered it, so it is live
reader_lives : (w : World) → IsSound w → (j : ℕ) (x : List Registration × Option Observed) → get_elem? (map reader_of w.actors) j ≡ some x → (r : Observed) → x.1 ≡ Some r → IsLive w.snapshots r.snapshot
reader_lives w s j x there r is =
    let b = from_map reader_of w.actors j x there in
    let at : IsIn (snapshot_of r) b.0.participant.registered = subst (IsIn (snapshot_of r)) (sym (ap (λ (z : List Registration × Option Observed). z.0) b.2)) (s.readers j x there r is).registered_at in
    (registered_live w.writes.history w.snapshots w.actors j b.0 (snapshot_of r) b.1 at s.registrations).0

pub stores_word : (w : World) (by : ℕ) (a : Actor) (pair : CommitPair) → get_elem? w.actors by ≡ some a → Needs w by a (store_word pair) → IsSound w → IsSound (done w by (forgets w.writes.history (length w.cache) (store_word pair) a) (store_word pair))
unfolding after SoAfter
stores_word w by a pair at n s =
    let k = pending_next w.writes.history w.writes.pending pair s.history.legal_next n.1 in
    let next : decision_of (extended w.writes.history w.writes.pending) pair.number ≡ Some pair.decision = ap (λ (z : List Entry). decision_of z pair.number) k.1 ∙ k.2.decided in
    let back = pair_back (length w.cache) pair (record { positive = k.2.positive; ordered = k.2.ordered; few = k.3; fits = n.2 }) in
    words_change w by a (store_word pair) write_turn (with_pair w.cache pair) w.delayed_flag w.old_flag at n.0 (cache_after w pair s next k.2.last back n.3) (decided_after w pair s next k.2.last back n.3) (delayed_after w pair s next k.2.last back n.3) s.flags
    (λ j x there r is. reader_after w pair s next k.2.last back n.3 x.0 r (reader_lives w s j x there r is) (s.readers j x there r is))
    (record { mine = λ p fact left o. mine_after w pair s next k.2.last back n.3 p fact left o; others = λ j p fact ne guard o. others_after w pair s next k.2.last back n.3 by j p fact n.0 ne guard o }) s
