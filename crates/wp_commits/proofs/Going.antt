-- That the pair of a word may go: what it takes to note it, and what that leaves.
use Rattle.std.proofs.Common.{◌≡◌, inl, inr, ℕ, zero, suc, ◌<◌, ◌≤◌, true, false, true≢false, get_or, List, [], ◌∷◌, length, refl, sym, subst, ap, ◌∙◌, Option, Some, None, option_map, arith}
use Rattle.std.specs.Prelude.{slice_get}
use Rattle.std.specs.List.{position}
use Rattle.std.proofs.lemmas.Bool.{false_from_ne_true}
use Rattle.std.proofs.lemmas.List.Quantifiers.{position-Some}
use Rattle.std.proofs.lemmas.Option.{get_or_from_slice_get}
use Rattle.wp_model.specs.declared.change.Change.{Change}
use Rattle.wp_model.specs.declared.entry.Entry.{Entry}
use Rattle.wp_model.specs.declared.entry.Entry.TheVariants.{Write, Prepare, Commit, Undo, Close}
use Rattle.wp_model.specs.Decision.{decision_of, decision_in}
use Rattle.wp_model.specs.History.{entry_at, is_prepare, decides}
use Rattle.wp_model.specs.PreparedSets.{PreparedSets, is_prepared}
use Rattle.wp_model.specs.Snapshots.{Snapshots}
use Rattle.wp_judge.specs.Words.{CommitPair, commit_pair}
use Rattle.wp_core.specs.Cache.{pair_at}
use Rattle.wp_core.specs.Entries.{extended}
use Rattle.wp_core.specs.Lists.{IsIn}
use Rattle.wp_core.specs.States.{WriteState, writes, prepared, snapshots}
use Rattle.wp_core.specs.Notes.{forgets}
use Rattle.wp_core.specs.Steps.{note}
use Rattle.wp_core.specs.Turns.{write_turn, Holds}
use Rattle.wp_core.specs.Views.{passed, in_old_commits, apart, words_stay}
use Rattle.wp_core.specs.World.{Actor, World}
use Rattle.wp_core.specs.Sound.Prepared.{IsInOldCommits}
use Rattle.wp_core.specs.Sound.Views.{IsApart, IsClearing}
use Rattle.wp_core.proofs.ReaderFacts.{extended_stays}
use Rattle.wp_model.proofs.Tests.{same_some}
use Rattle.wp_rule.specs.Knows.{KnowsFact}
use Rattle.wp_rule.specs.Moves.{MayMake, Moved}
use Rattle.wp_rule.specs.Words.{Place, IsAt}
use Rattle.wp_rule.proofs.Forgets.{note_ends, forgets_nothing}
use Rattle.wp_rule.proofs.Knows.{at_sound, held_is, noted_is}
use Rattle.wp_rule.proofs.Needed.{guarded}
use Rattle.wp_shared.specs.Seats.{SeatState}
use Rattle.wp_shared.proofs.OneStep.{becomes}
use Rattle.wp_shared.proofs.Tables.{held_state}
use Rattle.wp_commits.specs.Cleared.{IsThere}
use Rattle.wp_commits.specs.Making.{noting_all, noted_all}

module _ (a : Actor) (d : WriteState) (place p c : ℕ) where
  pub knows_passed : IsIn (writes d) a.held → (k : IsThere a d.history place p c) × (c ≤ k.bound) → KnowsFact a (passed place (commit_pair p c))
  knows_passed held k = let t = k.0 in record { state = d; held = held; so_is = (t.bound, t.words, t.noted, t.within, t.there, t.published, k.1) }

  pub knows_apart : (t : PreparedSets) → a.held ≡ prepared t ∷ writes d ∷ [] → IsThere a d.history place p c → IsApart t (commit_pair p c) → KnowsFact a (apart place (commit_pair p c))
  knows_apart t held k is = record {
    state = d;
    held = subst (IsIn (writes d)) (sym held) (inr (inl refl));
    so_is = record { state = t; held = subst (IsIn (prepared t)) (sym held) (inl refl); so_is = (k.bound, k.words, k.noted, k.within, k.there, k.published, is) };
  }

  pub knows_in_old_commits : (m : Snapshots) → a.held ≡ snapshots m ∷ writes d ∷ [] → IsThere a d.history place p c → IsInOldCommits m p c → KnowsFact a (in_old_commits place (commit_pair p c))
  knows_in_old_commits m held k is = record {
    state = d;
    held = subst (IsIn (writes d)) (sym held) (inr (inl refl));
    so_is = record { state = m; held = subst (IsIn (snapshots m)) (sym held) (inl refl); so_is = (k.bound, k.words, k.noted, k.within, k.there, k.published, is) };
  }

-- ---- a version that decided itself

-- a Prepare does not decide itself
not_own : (history : List Entry) (n : ℕ) → is_prepare (entry_at history n) ≡ true → decision_of history n ≡ Some n → ⊥
not_own history zero is decided = absurd (true≢false (sym is))
not_own history (suc i) is decided = by_entry (slice_get history i) refl is decided
  where
    by_place : (name : List ℕ) (batch : List Change) (o : Option ℕ) → slice_get history i ≡ Some (Prepare name batch) → position (decides (suc i)) history ≡ o → option_map suc o ≡ Some (suc i) → ⊥
    by_place name batch None there at e = let no : None ≡ Some (suc i) = e in absurd (cc)
    by_place name batch (Some j) there at e =
        let same : j ≡ i = let q : suc j ≡ suc i = same_some (suc j) (suc i) e in omega (arith, q) in
        let k = position-Some (decides (suc i)) history j (Prepare name batch) at in
        let here : get_or history j (Prepare name batch) ≡ Prepare name batch = ap (λ (x : ℕ). get_or history x (Prepare name batch)) same ∙ get_or_from_slice_get history i (Prepare name batch) (Prepare name batch) there in
        absurd (true≢false (sym k.1 ∙ ap (decides (suc i)) here))

    by_entry : (o : Option Entry) → slice_get history i ≡ o → is_prepare o ≡ true → decision_in history (suc i) o ≡ Some (suc i) → ⊥
    by_entry (Some (Prepare name batch)) there is e = by_place name batch (position (decides (suc i)) history) there refl e
    by_entry (Some (Write batch)) there is e = absurd (true≢false (sym is))
    by_entry (Some (Commit q)) there is e = absurd (true≢false (sym is))
    by_entry (Some (Undo q batch)) there is e = absurd (true≢false (sym is))
    by_entry (Some (Close q)) there is e = absurd (true≢false (sym is))
    by_entry None there is e = absurd (true≢false (sym is))

module _ (at : Place) (a : Actor) (d : WriteState) (place n : ℕ) (live : a.live ≡ true) (held : IsIn (writes d) a.held) (k : IsThere a d.history place n n) (low : n ≤ k.bound) where
  module _ (w : World) (there : IsAt at a w) where
    table_is : w.writes ≡ d
    table_is = held_state at a w (writes d) there held

    holds : Holds w.holders write_turn at.by
    holds = (held_is at a w (writes d) there held).0

    words_are : (w.max_evicted ≡ k.bound) × (w.cache ≡ k.words)
    words_are = (noted_is at a w (words_stay k.bound k.words) there k.noted).is_so

    clearing : (why : Type 0) → why → IsClearing (length w.writes.history) w.cache place (commit_pair n n) why
    clearing why is = record {
      place_within = subst (λ (x : List ℕ). place < length x) (sym words_are.1) k.within;
      there = ap (λ (x : List ℕ). pair_at x place) words_are.1 ∙ k.there;
      published_by = subst (λ (x : WriteState). n ≤ length x.history) (sym table_is) k.published;
      so = is;
    }

    not_prepared : is_prepared w.prepared n ≡ false
    not_prepared = false_from_ne_true (is_prepared w.prepared n) (λ is.
        not_own (extended w.writes.history w.writes.pending) n ((at_sound at a w there).undecided.known n is)
        (extended_stays w.writes.history w.writes.pending n n (subst (λ (x : WriteState). decision_of x.history n ≡ Some n) (sym table_is) k.decided)))

  pub may_note_own : MayMake at a (λ w. noting_all place (commit_pair n n))
  may_note_own w there =
      let g = guarded at a w there write_turn (holds w there) in (
        (tt, (tt, (tt, tt))),
        (
          (live, g, clearing w there (n ≤ w.max_evicted) (subst (λ (x : ℕ). n ≤ x) (sym (words_are w there).0) low)),
          (
            (live, g, clearing w there (IsInOldCommits w.snapshots n n) (λ s is from below. absurd (omega (arith, from, below)))),
            ((live, g, clearing w there (IsApart w.prepared (commit_pair n n)) (inl (not_prepared w there))), tt),
          ),
        ),
      )

pub noted_own : (at : Place) (so : World → Type 0) (place : ℕ) (pair : CommitPair) (s t : SeatState) → (t.table ≡ s.table) × (t.by ≡ s.by) × (t.turns ≡ s.turns) → Moved at (λ w. noting_all place pair) so s.knows t.knows
    → t ≡ noted_all place pair s
noted_own at so place pair s t same m =
    let w = m.world in
    let one : Actor → Actor = λ a. record a { notes = passed place pair ∷ a.notes } in
    let two : Actor → Actor = λ a. record a { notes = in_old_commits place pair ∷ a.notes } in
    let three : Actor → Actor = λ a. record a { notes = apart place pair ∷ a.notes } in
    let f : Actor = record s.knows { notes = passed place pair ∷ s.knows.notes } in
    let g : Actor = record f { notes = in_old_commits place pair ∷ f.notes } in
    let h = w.writes.history in
    let c = length w.cache in
    becomes s t (record g { notes = apart place pair ∷ g.notes }) same
    (m.actor
    ∙ (ap (λ (x : Actor). three (forgets h c (note (apart place pair)) (two (forgets h c (note (in_old_commits place pair)) (one x))))) (forgets_nothing h c (note (passed place pair)) s.knows (note_ends (passed place pair)))
    ∙ (ap (λ (x : Actor). three (forgets h c (note (apart place pair)) (two x))) (forgets_nothing h c (note (in_old_commits place pair)) f (note_ends (in_old_commits place pair)))
    ∙ ap three (forgets_nothing h c (note (apart place pair)) g (note_ends (apart place pair))))))
