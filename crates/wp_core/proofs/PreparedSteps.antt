-- Changes of the prepared sets keep a world sound.
use Rattle.std.proofs.Common.{◌≡◌, ◌≢◌, ◌⊎◌, inl, inr, ⊎_elim, ℕ, suc, ◌||◌, true, false, true≢false, length, slice_index, refl, sym, subst, ap, ◌∙◌, Some, None, arith, map, List, ◌≤◌, Bool}
use mathlib.Core.Option.{some}
use mathlib.Core.Logic.{dite}
use native.Mathlib.Decide.{ℕ_discrete}
use lib.ListN.{get_elem?}
use Rattle.std.specs.Ordering.{nat_cmp}
use Rattle.std.specs.FinSet as finset
use Rattle.std.specs.FinMap as finite
use Rattle.wp_model.specs.Decision.{decision_of}
use Rattle.wp_model.specs.History.{is_undecided}
use Rattle.wp_model.specs.PreparedSets.{PreparedSets, is_prepared}
use Rattle.wp_judge.specs.Words.{CommitPair, commit_pair}
use Rattle.wp_core.specs.Cache.{cached}
use Rattle.wp_core.specs.States.{without_prepared}
use Rattle.wp_core.specs.Turns.{Holds, prepared_turn, write_turn}
use Rattle.wp_core.specs.Views.{Fact, apart, has_left, number_in_heap, number_not_in_heap, pair_delayed, pair_not_delayed, none_waits}
use Rattle.wp_core.specs.World.{Participant, Actor, World}
use Rattle.wp_core.specs.Steps.{add_delayed_commit, take_out, delay_pending}
use Rattle.wp_core.specs.Effects.{done}
use Rattle.wp_core.specs.Needs.{Needs}
use Rattle.wp_core.specs.Notes.{forgets}
use Rattle.wp_core.specs.Sound.Prepared.{AreFlags, AreUndecided, AreDelayed, AreDecided, IsPassed, IsWide, IsEntered}
use Rattle.wp_core.specs.Sound.Views.{IsSo, IsApart, IsClearing, IsUndelayed}
use Rattle.wp_core.specs.Sound.Reader.{IsReachedBy, IsReader, AreReaders, reader_of}
use Rattle.wp_core.specs.IsSound.{IsSound}
use Rattle.wp_core.specs.Entries.{extended, pending_pair}
use Rattle.wp_core.specs.Reading.{Registration}
use Rattle.wp_core.proofs.HistoryLaws.{decided_within, undecided_not_decided, decision_within}
use Rattle.wp_model.proofs.Numbers.{in_removed, in_removed_else, get_inserted, get_inserted_else, get_removed, get_removed_else}
use Rattle.wp_core.proofs.Quiet.{Stays, stays_not, notes_all, notes_by, prepared_changes}
use Rattle.wp_core.proofs.StoresWord.{pending_next}
use Rattle.wp_core.proofs.ReaderFacts.{pair_ordered, extended_was, extended_stays}
use Rattle.wp_core.proofs.AllParts.{SoIn}
use Rattle.wp_model.proofs.Tests.{same_some, none_some}
use Rattle.wp_core.proofs.Gives.{not_free}
use Rattle.wp_model.specs.declared.entry.Entry.{Entry}
use Rattle.wp_judge.specs.declared.observed.Observed.{Observed}

-- what is noted with these prepared sets in place of the world's
abbrev pub SoWith : World → PreparedSets → Participant → Fact → Type 0
SoWith w t = IsSo w.delayed_flag w.old_flag w.max_evicted w.cache w.writes t w.snapshots w.store w.locks w.installed

-- a pair of the cache that is noted is decided by the history
pub clearing_decided : (w : World) (place : ℕ) (pair : CommitPair) (why : Type 0) → IsSound w → IsClearing (length w.writes.history) w.cache place pair why → decision_of w.writes.history pair.number ≡ Some pair.decision
clearing_decided w place pair why s k =
    let at = s.cache.pairs place pair k.place_within k.there in
    let ordered = pair_ordered (length w.cache) place (slice_index w.cache place) pair k.place_within k.there in
    let published = k.published_by in let low = ordered.1 in
    extended_was w.writes.history w.writes.pending pair.number pair.decision (omega arith) published at.decided

-- a reader knows the same with these delayed commits, where what was reached is so with them
readers_with : (w : World) (commits : finite.FinMap nat_cmp ℕ) → ((q : ℕ) → IsReachedBy w.writes.history w.max_evicted w.cache w.prepared.delayed_commits q → IsReachedBy w.writes.history w.max_evicted w.cache commits q)
    → (registered : List Registration) (r : Observed) → IsReader w.writes.history w.max_evicted w.cache w.prepared.delayed_commits w.snapshots registered r → IsReader w.writes.history w.max_evicted w.cache commits w.snapshots registered r
readers_with w commits reached registered r k = record {
  words = k.words;
  registered_at = k.registered_at;
  in_order = k.in_order;
  knows = λ low. let o = k.knows low in record {
    version = o.version;
    first_word = λ word e another is. reached r.version (o.first_word word e another is);
    first_max = o.first_max;
    not_in_prepared = o.not_in_prepared;
    second_word = o.second_word;
    second_max = o.second_max;
  };
}

-- ---- a decided number leaves

-- the pending entry's pair, and that it is not decided yet
pending_decides : (w : World) (s : IsSound w) (pair : CommitPair) → pending_pair w.writes.history w.writes.pending ≡ Some pair → decision_of (extended w.writes.history w.writes.pending) pair.number ≡ Some pair.decision
pending_decides w s pair is =
    let k = pending_next w.writes.history w.writes.pending pair s.history.legal_next is in
    ap (λ (z : List Entry). decision_of z pair.number) k.1 ∙ k.2.decided

pending_apart : (w : World) (s : IsSound w) (pair : CommitPair) (p c : ℕ) → pending_pair w.writes.history w.writes.pending ≡ Some pair → decision_of w.writes.history p ≡ Some c → pair.number ≢ p
pending_apart w s pair p c is decided e =
    let k = pending_next w.writes.history w.writes.pending pair s.history.legal_next is in
    let last = k.2.last in let low = decision_within w.writes.history p c decided in
    let same : pair.decision ≡ c = same_some pair.decision c (sym (pending_decides w s pair is) ∙ (ap (decision_of (extended w.writes.history w.writes.pending)) e ∙ extended_stays w.writes.history w.writes.pending p c decided)) in
    absurd (omega (arith, last, low, same))

module _ (w : World) (p c : ℕ) (s : IsSound w) (decided : decision_of w.writes.history p ≡ Some c) (answers : (cached w.cache p ≡ Some c) ⊎ IsPassed w.max_evicted w.snapshots p c) where
  abbrev out_commits : finite.FinMap nat_cmp ℕ
  out_commits = finite.remove w.prepared.delayed_commits p

  out_there : (q : ℕ) → q ≢ p → is_prepared (without_prepared w.prepared p) q ≡ is_prepared w.prepared q
  out_there q ne = λ i. in_removed_else w.prepared.heap p q ne i || in_removed_else w.prepared.delayed p q ne i

  out_gone : is_prepared (without_prepared w.prepared p) p ≡ false
  out_gone = λ i. in_removed w.prepared.heap p i || in_removed w.prepared.delayed p i

  removed_from : (x : finset.FinSet nat_cmp) (q : ℕ) → finset.contains (finset.remove x p) q ≡ true → finset.contains x q ≡ true
  removed_from x q there =
      dite (ℕ_discrete q p)
      (λ (e : q ≡ p). absurd (true≢false (sym there ∙ (ap (finset.contains (finset.remove x p)) e ∙ in_removed x p))))
      (λ (ne : q ≢ p). sym (in_removed_else x p q ne) ∙ there)

  was_prepared : (q : ℕ) → is_prepared (without_prepared w.prepared p) q ≡ true → (q ≢ p) × (is_prepared w.prepared q ≡ true)
  was_prepared q there =
      let ne : q ≢ p = λ (e : q ≡ p). true≢false (sym there ∙ (ap (is_prepared (without_prepared w.prepared p)) e ∙ out_gone)) in
      (ne, sym (out_there q ne) ∙ there)

  out_undecided : AreUndecided w.writes.history w.writes.pending (without_prepared w.prepared p) w.max_evicted
  out_undecided = record {
    found = λ q u. out_there q (λ (e : q ≡ p). undecided_not_decided w.writes.history p c (subst (λ (n : ℕ). is_undecided w.writes.history n ≡ true) e u) decided) ∙ s.undecided.found q u;
    heap_above = λ q there. s.undecided.heap_above q (removed_from w.prepared.heap q there);
    delayed_passed = λ q there. s.undecided.delayed_passed q (removed_from w.prepared.delayed q there);
    known = λ q there. s.undecided.known q (was_prepared q there).1;
  }

  out_delayed : AreDelayed w.writes.history w.writes.pending (without_prepared w.prepared p) w.cache
  out_delayed = record {
    found = λ q d there is. let was = was_prepared q there in
        ⊎_elim (λ (e : cached w.cache q ≡ Some d). inl e) (λ (e : finite.get w.prepared.delayed_commits q ≡ Some d). inr (get_removed_else w.prepared.delayed_commits p q was.0 ∙ e)) (s.delayed.found q d was.1 is);
    commits = λ q d there.
        dite (ℕ_discrete q p)
        (λ (e : q ≡ p). absurd (none_some (finite.get (without_prepared w.prepared p).delayed_commits p) d (get_removed w.prepared.delayed_commits p) (ap (finite.get (without_prepared w.prepared p).delayed_commits) (sym e) ∙ there)))
        (λ (ne : q ≢ p). s.delayed.commits q d (sym (get_removed_else w.prepared.delayed_commits p q ne) ∙ there));
  }

  -- what is too wide is a delayed commit still, and the number that goes is answered for
  out_decided : AreDecided w.writes.history w.cache out_commits w.max_evicted w.snapshots
  out_decided = record {
    found = λ q d is. ⊎_elim
        (λ (e : IsEntered w.cache w.prepared.delayed_commits w.max_evicted (commit_pair q d)).
        ⊎_elim (λ (there : cached w.cache q ≡ Some d). inl (inl there))
        (λ (x : IsWide (length w.cache) w.prepared.delayed_commits w.max_evicted (commit_pair q d)).
        dite (ℕ_discrete q p)
        (λ (e : q ≡ p). here q d e (same_some c d (sym decided ∙ (ap (decision_of w.writes.history) (sym e) ∙ is))))
        (λ (ne : q ≢ p). inl (inr (record { wide = x.wide; delayed = get_removed_else w.prepared.delayed_commits p q ne ∙ x.delayed; reached = x.reached })))) e)
        (λ (x : IsPassed w.max_evicted w.snapshots q d). inr x) (s.decided.found q d is);
    kept = s.decided.kept;
  }
    where
      here : (q d : ℕ) → q ≡ p → c ≡ d → IsEntered w.cache out_commits w.max_evicted (commit_pair q d) ⊎ IsPassed w.max_evicted w.snapshots q d
      here q d e same = subst (λ (z : ℕ × ℕ). IsEntered w.cache out_commits w.max_evicted (commit_pair z.0 z.1) ⊎ IsPassed w.max_evicted w.snapshots z.0 z.1) (λ i. (sym e i, same i))
          (⊎_elim (λ (there : cached w.cache p ≡ Some c). inl (inl there)) (λ (x : IsPassed w.max_evicted w.snapshots p c). inr x) answers)

  out_reached : (q : ℕ) → IsReachedBy w.writes.history w.max_evicted w.cache w.prepared.delayed_commits q → IsReachedBy w.writes.history w.max_evicted w.cache out_commits q
  out_reached q k = record {
    by = k.by;
    decided = k.decided;
    reached = k.reached;
    elsewhere = ⊎_elim (λ (low : k.by ≤ w.max_evicted). inl low)
        (λ (e : finite.get w.prepared.delayed_commits q ≡ Some k.by).
        dite (ℕ_discrete q p)
        (λ (is : q ≡ p). let same : c ≡ k.by = same_some c k.by (sym decided ∙ (ap (decision_of w.writes.history) (sym is) ∙ k.decided)) in
        ⊎_elim (λ (there : cached w.cache p ≡ Some c). absurd (none_some (cached w.cache p) c (ap (cached w.cache) (sym is) ∙ k.gone) there)) (λ (x : IsPassed w.max_evicted w.snapshots p c). inl (subst (λ (n : ℕ). n ≤ w.max_evicted) same x.0)) answers)
        (λ (ne : q ≢ p). inr (get_removed_else w.prepared.delayed_commits p q ne ∙ e))) k.elsewhere;
    gone = k.gone;
  }

  out_readers : AreReaders w.writes.history w.max_evicted w.cache out_commits w.snapshots (map reader_of w.actors)
  out_readers j x there r is = readers_with w out_commits (λ q k. out_reached q k) x.0 r (s.readers j x there r is)

  not_in_removed : (x : finset.FinSet nat_cmp) (q : ℕ) → finset.contains x q ≡ false → finset.contains (finset.remove x p) q ≡ false
  not_in_removed x q none = dite (ℕ_discrete q p) (λ (e : q ≡ p). ap (finset.contains (finset.remove x p)) e ∙ in_removed x p) (λ (ne : q ≢ p). in_removed_else x p q ne ∙ none)

  none_in_removed : (q : ℕ) → finite.get w.prepared.delayed_commits q ≡ None → finite.get (finite.remove w.prepared.delayed_commits p) q ≡ None
  none_in_removed q none = dite (ℕ_discrete q p) (λ (e : q ≡ p). ap (finite.get (finite.remove w.prepared.delayed_commits p)) e ∙ get_removed w.prepared.delayed_commits p) (λ (ne : q ≢ p). get_removed_else w.prepared.delayed_commits p q ne ∙ none)

  out_flags : (by : ℕ) → Holds w.holders prepared_turn by → AreFlags w.delayed_flag w.old_flag (without_prepared w.prepared p) w.snapshots w.holders.prepared w.holders.snapshots
  out_flags by mine = record {
    none_delayed = λ zero_flag. let k = s.flags.none_delayed zero_flag in ((λ q. not_in_removed w.prepared.delayed q (k.0 q)), (λ q. none_in_removed q (k.1 q)));
    none_kept = s.flags.none_kept;
    delayed_free = λ free. absurd (not_free w.holders prepared_turn by mine free);
    old_free = s.flags.old_free;
  }

  out_apart : (pair : CommitPair) → IsApart w.prepared pair → IsApart (without_prepared w.prepared p) pair
  out_apart pair k =
      dite (ℕ_discrete pair.number p)
      (λ (e : pair.number ≡ p). inl (ap (is_prepared (without_prepared w.prepared p)) e ∙ out_gone))
      (λ (ne : pair.number ≢ p). ⊎_elim (λ (e : is_prepared w.prepared pair.number ≡ false). inl (out_there pair.number ne ∙ e)) (λ (e : finite.get w.prepared.delayed_commits pair.number ≡ Some pair.decision). inr (get_removed_else w.prepared.delayed_commits p pair.number ne ∙ e)) k)

  next_is_not : suc (length w.writes.history) ≢ p
  next_is_not e = let low = decided_within w.writes.history p c decided in absurd (omega arith)

  out_so : (a : Participant) (fact : Fact) → SoIn w a fact → SoWith w (without_prepared w.prepared p) a fact
  out_so a (apart place pair) k = record { place_within = k.place_within; there = k.there; published_by = k.published_by; so = out_apart pair k.so }
  out_so a (has_left q) k = (k.0, dite (ℕ_discrete q p) (λ (e : q ≡ p). ap (is_prepared (without_prepared w.prepared p)) e ∙ out_gone) (λ (ne : q ≢ p). out_there q ne ∙ k.1))
  out_so a number_in_heap k = in_removed_else w.prepared.heap p (suc (length w.writes.history)) next_is_not ∙ k
  out_so a number_not_in_heap k = not_in_removed w.prepared.heap (suc (length w.writes.history)) k
  out_so a pair_delayed k = λ pair is. get_removed_else w.prepared.delayed_commits p pair.number (pending_apart w s pair p c is decided) ∙ k pair is
  out_so a pair_not_delayed k = λ pair is e. k pair is (sym (get_removed_else w.prepared.delayed_commits p pair.number (pending_apart w s pair p c is decided)) ∙ e)
  out_so a none_waits k = λ q d there is low. k q d (was_prepared q there).1 is low
  out_so a fact k = k

pub takes_out : (w : World) (by : ℕ) (a : Actor) (p : ℕ) → get_elem? w.actors by ≡ some a → Needs w by a (take_out p) → IsSound w → IsSound (done w by (forgets w.writes.history (length w.cache) (take_out p) a) (take_out p))
takes_out w by a p at n s =
    let c = n.1.0 in let decided = n.1.1 in let answers = n.1.2 in
    prepared_changes w by a (take_out p) (without_prepared w.prepared p) at n.0 (out_decided w p c s decided answers) (out_undecided w p c s decided answers) (out_delayed w p c s decided answers) (out_flags w p c s decided answers by n.0)
    (out_readers w p c s decided answers) (notes_all w by (take_out p) _ (out_so w p c s decided answers)) s

-- ---- a delayed commit comes

-- whether it says that the pending entry's pair is no delayed commit
abbrev is_undelayed : Fact → Bool
is_undelayed pair_not_delayed = true
is_undelayed other = false

module _ (w : World) (pair : CommitPair) (s : IsSound w) (decides : decision_of (extended w.writes.history w.writes.pending) pair.number ≡ Some pair.decision) where
  abbrev more_commits : finite.FinMap nat_cmp ℕ
  more_commits = finite.insert w.prepared.delayed_commits pair.number pair.decision

  with_commit : PreparedSets
  with_commit = record w.prepared { delayed_commits = finite.insert w.prepared.delayed_commits pair.number pair.decision }

  -- a number has one decision, with the pending entry
  commit_there : (q d : ℕ) → decision_of (extended w.writes.history w.writes.pending) q ≡ Some d → (q ≡ pair.number) → finite.get more_commits q ≡ Some d
  commit_there q d is e =
      let same : pair.decision ≡ d = same_some pair.decision d (sym decides ∙ (ap (decision_of (extended w.writes.history w.writes.pending)) (sym e) ∙ is)) in
      ap (finite.get more_commits) e ∙ (get_inserted w.prepared.delayed_commits pair.number pair.decision ∙ ap Some same)

  commit_stays_next : (q d : ℕ) → decision_of (extended w.writes.history w.writes.pending) q ≡ Some d → finite.get w.prepared.delayed_commits q ≡ Some d → finite.get more_commits q ≡ Some d
  commit_stays_next q d is there = dite (ℕ_discrete q pair.number) (commit_there q d is) (λ (ne : q ≢ pair.number). get_inserted_else w.prepared.delayed_commits pair.number pair.decision q ne ∙ there)

  commit_stays : (q d : ℕ) → decision_of w.writes.history q ≡ Some d → finite.get w.prepared.delayed_commits q ≡ Some d → finite.get more_commits q ≡ Some d
  commit_stays q d is there = commit_stays_next q d (extended_stays w.writes.history w.writes.pending q d is) there

  commit_decided : AreDecided w.writes.history w.cache more_commits w.max_evicted w.snapshots
  commit_decided = record {
    found = λ q d is. ⊎_elim
        (λ (e : IsEntered w.cache w.prepared.delayed_commits w.max_evicted (commit_pair q d)).
        ⊎_elim (λ (there : cached w.cache q ≡ Some d). inl (inl there))
        (λ (x : IsWide (length w.cache) w.prepared.delayed_commits w.max_evicted (commit_pair q d)). inl (inr (record { wide = x.wide; delayed = commit_stays q d is x.delayed; reached = x.reached }))) e)
        (λ (x : IsPassed w.max_evicted w.snapshots q d). inr x) (s.decided.found q d is);
    kept = s.decided.kept;
  }

  commit_readers : AreReaders w.writes.history w.max_evicted w.cache more_commits w.snapshots (map reader_of w.actors)
  commit_readers j x there r is =
      readers_with w more_commits
      (λ q k. record { by = k.by; decided = k.decided; reached = k.reached; elsewhere = ⊎_elim (λ (low : k.by ≤ w.max_evicted). inl low) (λ (e : finite.get w.prepared.delayed_commits q ≡ Some k.by). inr (commit_stays q k.by k.decided e)) k.elsewhere; gone = k.gone })
      x.0 r (s.readers j x there r is)

  commit_undecided : AreUndecided w.writes.history w.writes.pending with_commit w.max_evicted
  unfolding with_commit
  commit_undecided = record { found = s.undecided.found; heap_above = s.undecided.heap_above; delayed_passed = s.undecided.delayed_passed; known = s.undecided.known }

  commit_delayed : AreDelayed w.writes.history w.writes.pending with_commit w.cache
  unfolding with_commit
  commit_delayed = record {
    found = λ q d there is. ⊎_elim (λ (e : cached w.cache q ≡ Some d). inl e) (λ (e : finite.get w.prepared.delayed_commits q ≡ Some d). inr (commit_stays q d is e)) (s.delayed.found q d there is);
    commits = λ q d there.
        dite (ℕ_discrete q pair.number)
        (λ (e : q ≡ pair.number). let same : pair.decision ≡ d = same_some pair.decision d (sym (get_inserted w.prepared.delayed_commits pair.number pair.decision) ∙ (ap (finite.get more_commits) (sym e) ∙ there)) in ap (decision_of (extended w.writes.history w.writes.pending)) e ∙ (decides ∙ ap Some same))
        (λ (ne : q ≢ pair.number). s.delayed.commits q d (sym (get_inserted_else w.prepared.delayed_commits pair.number pair.decision q ne) ∙ there));
  }

  commit_flags : (by : ℕ) → Holds w.holders prepared_turn by → w.delayed_flag ≢ 0 → AreFlags w.delayed_flag w.old_flag with_commit w.snapshots w.holders.prepared w.holders.snapshots
  commit_flags by mine raised = record { none_delayed = λ zero_flag. absurd (raised zero_flag); none_kept = s.flags.none_kept; delayed_free = λ free. absurd (not_free w.holders prepared_turn by mine free); old_free = s.flags.old_free }

  commit_so : (a : Participant) (fact : Fact) → is_undelayed fact ≡ false → SoIn w a fact → SoWith w with_commit a fact
  unfolding with_commit
  commit_so a (apart place other) else_ k = record {
    place_within = k.place_within;
    there = k.there;
    published_by = k.published_by;
    so = ⊎_elim (λ (e : is_prepared w.prepared other.number ≡ false). inl e) (λ (e : finite.get w.prepared.delayed_commits other.number ≡ Some other.decision). inr (commit_stays other.number other.decision (clearing_decided w place other _ s k) e)) k.so;
  }
  commit_so a pair_not_delayed else_ k = absurd (true≢false else_)
  commit_so a pair_delayed else_ k = λ next is. commit_stays_next next.number next.decision (pending_decides w s next is) (k next is)
  commit_so a fact else_ k = k

  -- a pair that is decided is not the pending entry's
  commit_undelayed : decision_of w.writes.history pair.number ≡ Some pair.decision → IsUndelayed w.writes w.prepared → IsUndelayed w.writes with_commit
  unfolding with_commit
  commit_undelayed was k next is e = k next is (sym (get_inserted_else w.prepared.delayed_commits pair.number pair.decision next.number (pending_apart w s next pair.number pair.decision is was)) ∙ e)

pub adds_delayed_commit : (w : World) (by : ℕ) (a : Actor) (pair : CommitPair) → get_elem? w.actors by ≡ some a → Needs w by a (add_delayed_commit pair) → IsSound w → IsSound (done w by (forgets w.writes.history (length w.cache) (add_delayed_commit pair) a) (add_delayed_commit pair))
unfolding with_commit
adds_delayed_commit w by a pair at n s =
    let decides = extended_stays w.writes.history w.writes.pending pair.number pair.decision n.2 in
    prepared_changes w by a (add_delayed_commit pair) (with_commit w pair s decides) at n.0 (commit_decided w pair s decides) (commit_undecided w pair s decides) (commit_delayed w pair s decides) (commit_flags w pair s decides by n.0 n.1)
    (commit_readers w pair s decides) (notes_all w by (add_delayed_commit pair) _ (so_decided w pair s decides n.2)) s
  where
    so_decided : (w : World) (pair : CommitPair) (s : IsSound w) (decides : decision_of (extended w.writes.history w.writes.pending) pair.number ≡ Some pair.decision) → decision_of w.writes.history pair.number ≡ Some pair.decision → (p : Participant) (fact : Fact) → SoIn w p fact → SoWith w (with_commit w pair s decides) p fact
    so_decided w pair s decides was p pair_not_delayed k = commit_undelayed w pair s decides was k
    so_decided w pair s decides was p fact k = commit_so w pair s decides p fact refl k

-- the pending entry's pair
pub delays_pending_pair : (w : World) (by : ℕ) (a : Actor) (pair : CommitPair) → get_elem? w.actors by ≡ some a → Needs w by a (delay_pending pair) → IsSound w → IsSound (done w by (forgets w.writes.history (length w.cache) (delay_pending pair) a) (delay_pending pair))
unfolding with_commit
delays_pending_pair w by a pair at n s =
    let decides = pending_decides w s pair n.3 in
    prepared_changes w by a (delay_pending pair) (with_commit w pair s decides) at n.1 (commit_decided w pair s decides) (commit_undecided w pair s decides) (commit_delayed w pair s decides) (commit_flags w pair s decides by n.1 n.2)
    (commit_readers w pair s decides) (notes_by w by (delay_pending pair) write_turn _ n.0 (so_next w pair s decides)) s
  where
    so_next : (w : World) (pair : CommitPair) (s : IsSound w) (decides : decision_of (extended w.writes.history w.writes.pending) pair.number ≡ Some pair.decision) → (p : Participant) (fact : Fact) → Stays w (delay_pending pair) write_turn fact → SoIn w p fact → SoWith w (with_commit w pair s decides) p fact
    so_next w pair s decides p pair_not_delayed stays k = absurd (stays_not write_turn stays)
    so_next w pair s decides p fact stays k = commit_so w pair s decides p fact refl k
