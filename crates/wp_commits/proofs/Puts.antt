-- Storing the word of the pending entry's pair.
use Rattle.std.proofs.Common.{◌≡◌, ◌≢◌, inl, inr, slice_index, ℕ, ◌==◌, ◌<◌, ◌≤◌, ◌^◌, false, true≢false, List, [], ◌∷◌, ◌++◌, length, length-append, refl, sym, subst, ap, ◌∙◌, Some, arith, suc, zero, ◌+◌, append_assoc, length-set, true}
use Rattle.wp_model.specs.declared.entry.Entry.{Entry}
use Rattle.wp_model.specs.Legal.{IsLegal}
use Rattle.std.proofs.lemmas.Bool.{ne_eqb}
use Rattle.std.proofs.lemmas.List.{get_or-set_same, get_or-set_other}
use Rattle.wp_judge.specs.Words.{CommitPair, word_of, pair_of, fits, MayBePacked, seq_end}
use Rattle.wp_core.specs.Cache.{cache_place, pair_at, with_pair}
use Rattle.wp_core.specs.Entries.{pending_pair, pair_by}
use Rattle.wp_core.specs.Lists.{IsIn}
use Rattle.wp_core.specs.Notes.{ends}
use Rattle.wp_core.specs.Steps.{store_word}
use Rattle.wp_core.specs.States.{WriteState, writes}
use Rattle.wp_core.specs.Views.{Fact, passed, in_old_commits, apart, words_stay, none_waits, delayed_flag_stays, old_flag_stays}
use Rattle.wp_core.specs.World.{Actor, World}
use Rattle.wp_core.proofs.StoresWord.{pending_next}
use Rattle.wp_model.proofs.Tests.{same_some, none_some}
use Rattle.wp_rule.specs.Knows.{Noted, KnowsCleared}
use Rattle.wp_rule.specs.Moves.{MayStep, Moved, storing_word}
use Rattle.wp_rule.specs.Words.{Place}
use Rattle.wp_rule.proofs.Knows.{noted_is}
use Rattle.wp_rule.proofs.Needed.{needed}
use Rattle.wp_rule.proofs.Outlasting.{outlasts}
use Rattle.wp_shared.specs.Seats.{SeatState}
use Rattle.wp_commits.specs.Cleared.{IsCleared, IsReadyAt}
use Rattle.wp_shared.specs.Notes.{GoesOn}
use Rattle.wp_commits.specs.Notes.{is_of_place}
use Rattle.wp_shared.proofs.Goes.{goes_with}
use Rattle.wp_commits.proofs.Flags.{note_ends_none}
use Rattle.std.specs.Prelude.{slice_get}

-- the pair of an entry that may come next may be packed, where it fits
pub next_packs : (cells : ℕ) (history pending : List Entry) (pair : CommitPair) → IsLegal (history ++ pending) → pending_pair history pending ≡ Some pair → fits cells pair ≡ true → MayBePacked cells pair
next_packs cells history pending pair legal is narrow = let k = pending_next history pending pair legal is in record { positive = k.2.positive; ordered = k.2.ordered; few = k.3; fits = narrow }

-- so each pair of entries that may come next has its numbers in order, and none that is too great
pub pair_at_order : (history entries : List Entry) (i : ℕ) (entry : Entry) (pair : CommitPair) → IsLegal (history ++ entries) → slice_get entries i ≡ Some entry → pair_by (suc (length history) + i) entry ≡ Some pair → (pair.number ≤ pair.decision) × (pair.decision < seq_end)
pair_at_order history [] i entry pair legal at is = absurd (none_some (slice_get [] i) entry refl at)
pair_at_order history (first ∷ others) zero entry pair legal at is =
    let here : suc (length history) ≡ suc (length history) + zero = omega arith in
    let k = pending_next history (first ∷ others) pair legal ((λ j. pair_by (here j) (same_some first entry at j)) ∙ is) in (k.2.ordered, k.3)
pair_at_order history (first ∷ others) (suc i) entry pair legal at is =
    let longer : suc (length (history ++ first ∷ [])) + i ≡ suc (length history) + suc i = omega (arith, length-append history (first ∷ [])) in
    pair_at_order (history ++ first ∷ []) others i entry pair (subst IsLegal (sym (append_assoc history (first ∷ []) others)) legal) at (ap (λ (n : ℕ). pair_by n entry) longer ∙ is)

-- the packed word at its place
pub word_there : (cells bits place word : ℕ) (pair : CommitPair) → cells ≡ 2 ^ bits → place ≡ cache_place cells pair.number → pair_of (2 ^ bits) (cache_place (2 ^ bits) pair.number) word ≡ Some pair → pair_of cells place word ≡ Some pair
word_there cells bits place word pair cells_is is there = (λ k. pair_of (cells_is k) ((is ∙ ap (λ (n : ℕ). cache_place n pair.number) cells_is) k) word) ∙ there

cleared_known : (a : Actor) (cells place : ℕ) (pair : CommitPair) → place ≡ cache_place cells pair.number → IsCleared a place → KnowsCleared a cells pair
cleared_known a cells place pair is cleared = at (subst (IsCleared a) is cleared)
  where
    at : IsCleared a (cache_place cells pair.number) → KnowsCleared a cells pair
    at (inl none) = inl none
    at (inr gone) = inr (gone.0, gone.1.0, gone.1.1, gone.1.2)

pub may_put : (p : Place) (a : Actor) (d : WriteState) (place : ℕ) (pair : CommitPair) → IsIn (writes d) a.held → place ≡ cache_place p.cells pair.number → pending_pair d.history d.pending ≡ Some pair → fits p.cells pair ≡ true → IsCleared a place → MayStep p a (store_word pair)
may_put p a d place pair held is pending narrow cleared w k = needed p a w k (store_word pair) (record { state = d; held = held; so_is = (pending, narrow, cleared_known a p.cells place pair is cleared) })

word_ends : (history : List Entry) (words place : ℕ) (pair : CommitPair) (fact : Fact) → place ≡ cache_place words pair.number → is_of_place place fact ≡ false → ends history words (store_word pair) fact ≡ false
word_ends history words place pair (passed i gone) is e = ap (λ (x : ℕ). x == i) (sym is) ∙ e
word_ends history words place pair (in_old_commits i gone) is e = ap (λ (x : ℕ). x == i) (sym is) ∙ e
word_ends history words place pair (apart i gone) is e = ap (λ (x : ℕ). x == i) (sym is) ∙ e
word_ends history words place pair (words_stay bound cache) is e = absurd (true≢false e)
word_ends history words place pair none_waits is e = absurd (true≢false e)
word_ends history words place pair (delayed_flag_stays value) is e = absurd (true≢false e)
word_ends history words place pair (old_flag_stays value) is e = absurd (true≢false e)
word_ends history words place pair other is e = refl

module _ (p : Place) (so : World → Type 0) (s t : SeatState) (place : ℕ) (pair : CommitPair) (is : place ≡ cache_place p.cells pair.number) (same : (t.table ≡ s.table) × (t.by ≡ s.by) × (t.turns ≡ s.turns)) (moved : Moved p (storing_word pair) so s.knows t.knows) where
  pub put : GoesOn (is_of_place place) s.knows.held s.turns s t
  put = let w = moved.world in record {
    same = goes_with s t s.knows.held s.turns _ same.0 same.1 same.2 moved.actor;
    noted = λ fact other there. subst (λ (x : Actor). Noted x fact) (sym moved.actor)
        (outlasts fact (storing_word pair w) w p.by s.knows there ((λ x. x), word_ends w.writes.history (length w.cache) place pair fact (is ∙ ap (λ (n : ℕ). cache_place n pair.number) (sym moved.before.cells)) other, ((λ x. x), note_ends_none w.writes.history (length w.cache) (words_stay w.max_evicted (with_pair w.cache pair)) fact, tt)));
  }

  pub words_put : (bound : ℕ) (words : List ℕ) → Noted s.knows (words_stay bound words) → Noted t.knows (words_stay bound (with_pair words pair))
  words_put bound words there =
      let w = moved.world in
      let k = (noted_is p s.knows w (words_stay bound words) moved.before there).is_so in
      subst (λ (x : Actor). Noted x (words_stay bound (with_pair words pair))) (sym moved.actor) (inl (λ i. words_stay (k.0 i) (with_pair (k.1 i) pair)))

  -- the pair is there
  pub put_there : place < p.cells → pair_of p.cells place (word_of p.cells pair) ≡ Some pair → (bound : ℕ) (words : List ℕ) → Noted t.knows (words_stay bound words) → pair_at words place ≡ Some pair
  put_there within back bound words there =
      let w = moved.world in
      let cache : with_pair w.cache pair ≡ words = (noted_is p t.knows _ (words_stay bound words) moved.after there).is_so.1 in
      let here : cache_place (length w.cache) pair.number ≡ place = ap (λ (n : ℕ). cache_place n pair.number) moved.before.cells ∙ sym is in
      let low : cache_place (length w.cache) pair.number < length w.cache = let e : length w.cache ≡ p.cells = moved.before.cells in omega (arith, e, here, within) in
      let stored : slice_index (with_pair w.cache pair) (cache_place (length w.cache) pair.number) ≡ word_of (length w.cache) pair = get_or-set_same w.cache (cache_place (length w.cache) pair.number) (word_of (length w.cache) pair) _ low in
      let found : slice_index (with_pair w.cache pair) place ≡ word_of p.cells pair = ap (slice_index (with_pair w.cache pair)) (sym here) ∙ (stored ∙ ap (λ (n : ℕ). word_of n pair) moved.before.cells) in
      let long : length (with_pair w.cache pair) ≡ p.cells = length-set w.cache (cache_place (length w.cache) pair.number) (word_of (length w.cache) pair) ∙ moved.before.cells in
      ap (λ (x : List ℕ). pair_at x place) (sym cache) ∙ ((λ i. pair_of (long i) place (found i)) ∙ back)

  word_elsewhere : (bound : ℕ) (words : List ℕ) → Noted s.knows (words_stay bound words) → (i : ℕ) → i ≢ place → pair_at (with_pair words pair) i ≡ pair_at words i
  word_elsewhere bound words there i ne =
      let w = moved.world in
      let cache : w.cache ≡ words = (noted_is p s.knows w (words_stay bound words) moved.before there).is_so.1 in
      let here : cache_place (length words) pair.number ≡ place = ap (λ (n : ℕ). cache_place n pair.number) (sym (ap length cache) ∙ moved.before.cells) ∙ sym is in
      let other : slice_index (with_pair words pair) i ≡ slice_index words i = get_or-set_other words (cache_place (length words) pair.number) i (word_of (length words) pair) _ (λ e. ne (e ∙ here)) in
      let long : length (with_pair words pair) ≡ length words = length-set words (cache_place (length words) pair.number) (word_of (length words) pair) in
      λ k. pair_of (long k) i (other k)

  -- what is ready elsewhere stays so
  pub put_elsewhere : (published i : ℕ) → i ≢ place → IsReadyAt s.knows published i → IsReadyAt t.knows published i
  put_elsewhere published i ne (inl (inl empty)) = inl (inl (empty.0, with_pair empty.1 pair, words_put empty.0 empty.1 empty.2, word_elsewhere empty.0 empty.1 empty.2 i ne ∙ empty.3))
  put_elsewhere published i ne (inl (inr gone)) =
      let other : (place == i) ≡ false = ne_eqb place i (λ e. ne (sym e)) in
      inl (inr (gone.0, (put.noted (passed i gone.0) other gone.1.0, put.noted (in_old_commits i gone.0) other gone.1.1, put.noted (apart i gone.0) other gone.1.2)))
  put_elsewhere published i ne (inr own) = inr (own.0, with_pair own.1 pair, own.2, words_put own.0 own.1 own.3, own.4, word_elsewhere own.0 own.1 own.3 i ne ∙ own.5)
