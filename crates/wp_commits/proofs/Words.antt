-- What loads of the bound and of words tell a seat that holds the write turn.
use Rattle.std.proofs.Common.{◌≡◌, ◌⊎◌, inl, inr, ⊎_elim, ℕ, suc, ◌<◌, ◌≤◌, List, [], ◌∷◌, ◌++◌, length, slice_index, refl, sym, subst, ap, ◌∙◌, Option, Some, None, length-append, arith}
use Rattle.std.specs.Prelude.{IfSome}
use Rattle.std.specs.Option.{option_map}
use Rattle.std.proofs.lemmas.Bool.{cases_lt}
use Rattle.wp_model.specs.declared.entry.Entry.{Entry}
use Rattle.wp_model.specs.Decision.{decision_of}
use Rattle.wp_judge.specs.Words.{CommitPair, commit_pair, pair_of, numbers_of}
use Rattle.wp_core.specs.Cache.{cache_place, pair_at}
use Rattle.wp_core.specs.Entries.{extended, pending_pair}
use Rattle.wp_core.specs.Lists.{IsIn}
use Rattle.wp_core.specs.States.{WriteState, writes}
use Rattle.wp_core.specs.Views.{passed, words_stay}
use Rattle.wp_core.specs.World.{World}
use Rattle.wp_core.specs.Sound.Prepared.{IsPairAt}
use Rattle.wp_core.proofs.HistoryLaws.{decision_was, decision_within, decided_by_last}
use Rattle.wp_model.proofs.Tests.{same_some, none_some}
use Rattle.wp_core.proofs.ReaderFacts.{pair_ordered, extended_was}
use Rattle.wp_rule.specs.Knows.{Noted}
use Rattle.wp_rule.specs.Words.{IsAt}
use Rattle.wp_rule.proofs.Knows.{at_sound, noted_is}
use Rattle.wp_shared.specs.Seats.{SharedState, SeatState, Stands, place_at}
use Rattle.wp_shared.proofs.Tables.{held_state}
use Rattle.wp_commits.specs.Cleared.{IsThere, IsCleared, DecidesItself, IsReadyAt, IsUnentered}

pub bound_is : {D : Type 0} (z : SharedState D) (s t : SeatState) (found : ℕ) → t ≡ s → (w : World) × Stands z t w × (found ≡ w.max_evicted) → (bound : ℕ) (words : List ℕ) → Noted s.knows (words_stay bound words) → found ≡ bound
bound_is z s t found same at bound words there =
    let k : IsAt (place_at z s.by) s.knows at.0 = subst (λ (x : SeatState). IsAt (place_at z x.by) x.knows at.0) same at.1 in at.2 ∙ (noted_is (place_at z s.by) s.knows at.0 (words_stay bound words) k there).is_so.0

-- what is decided with the pending entry, and is not its pair, is decided and published without it
pub decided_without : (history pending : List Entry) (pair : CommitPair) → (pending_pair history pending ≡ Some pair → ⊥) → pair.number ≤ pair.decision → decision_of (extended history pending) pair.number ≡ Some pair.decision
    → (decision_of history pair.number ≡ Some pair.decision) × (pair.decision ≤ length history)
decided_without history [] pair other low e = (e, decision_within history pair.number pair.decision e)
decided_without history (entry ∷ others) pair other low e =
    let most = decision_within (history ++ entry ∷ []) pair.number pair.decision e in
    elim (cases_lt (length history) pair.decision) [
      | inl past ↦
          let is : pair.decision ≡ suc (length history) = omega (arith, length-append history (entry ∷ [])) in
          absurd (other (decided_by_last history entry pair.number (e ∙ ap Some is) ∙ ap (λ (c : ℕ). Some (commit_pair pair.number c)) (sym is)))
      | inr within ↦ (decision_was history (entry ∷ []) pair.number pair.decision (omega arith) within e, within)
    ]

module _ {D : Type 0} (z : SharedState D) (s t : SeatState) (d : WriteState) (place word : ℕ) (same : t ≡ s) (at : (w : World) × Stands z t w × (word ≡ slice_index w.cache place)) where
  stands : IsAt (place_at z s.by) s.knows at.0
  stands = subst (λ (x : SeatState). IsAt (place_at z x.by) x.knows at.0) same at.1

  module _ (bound : ℕ) (words : List ℕ) (there : Noted s.knows (words_stay bound words)) where
    cache_is : at.0.cache ≡ words
    cache_is = (noted_is (place_at z s.by) s.knows at.0 (words_stay bound words) stands there).is_so.1

    words_are : length words ≡ z.cells
    words_are = sym (ap length cache_is) ∙ stands.cells

    pub pair_is : (o : Option (ℕ × ℕ)) → o ≡ option_map numbers_of (pair_of z.cells place word) → o ≡ option_map numbers_of (pair_at words place)
    pair_is o is = let found : word ≡ slice_index words place = at.2 ∙ ap (λ (x : List ℕ). slice_index x place) cache_is in is ∙ (λ i. option_map numbers_of (pair_of (sym words_are i) place (found i)))

  module _ (held : IsIn (writes d) s.knows.held) (within : place < z.cells) (noted : (bound : ℕ) × (words : List ℕ) × Noted s.knows (words_stay bound words)) (ready : IsUnentered s.knows z.cells d ⊎ IsReadyAt s.knows (length d.history) place) where
    table_is : at.0.writes ≡ d
    table_is = held_state (place_at z s.by) s.knows at.0 (writes d) stands held

    abbrev IsFound : ℕ × ℕ → Type 0
    IsFound r = IsThere s.knows d.history place r.0 r.1

    module _ (pair : CommitPair) (is : pair_of z.cells place word ≡ Some pair) where
      there : pair_at at.0.cache place ≡ Some pair
      there = (λ i. pair_of (stands.cells i) place (sym at.2 i)) ∙ is

      known : IsPairAt (extended at.0.writes.history at.0.writes.pending) (length at.0.cache) place pair
      known = (at_sound (place_at z s.by) s.knows at.0 stands).cache.pairs place pair (subst (λ (n : ℕ). place < n) (sym stands.cells) within) there

      decided : decision_of (extended d.history d.pending) pair.number ≡ Some pair.decision
      decided = subst (λ (x : WriteState). decision_of (extended x.history x.pending) pair.number ≡ Some pair.decision) table_is known.decided

      ordered : (1 ≤ pair.number) × (pair.number ≤ pair.decision)
      ordered = pair_ordered z.cells place word pair within is

      in_words : (bound : ℕ) (words : List ℕ) → Noted s.knows (words_stay bound words) → pair_at words place ≡ Some pair
      in_words bound words noted = sym (ap (λ (x : List ℕ). pair_at x place) (cache_is bound words noted)) ∙ there

      unentered_low : IsUnentered s.knows z.cells d → pair.decision ≤ length d.history
      unentered_low un =
          (decided_without d.history d.pending pair
          (λ e. let u = un pair e in
          let placed : cache_place z.cells pair.number ≡ place = ap (λ (n : ℕ). cache_place n pair.number) (sym stands.cells) ∙ known.placed in u.3 (ap (pair_at u.1) placed ∙ in_words u.0 u.1 u.2))
          ordered.1 decided).1

      cleared_low : IsCleared s.knows place → pair.decision ≤ length d.history
      cleared_low (inl empty) = absurd (none_some (pair_at empty.1 place) pair empty.3 (in_words empty.0 empty.1 empty.2))
      cleared_low (inr gone) =
          let k = (noted_is (place_at z s.by) s.knows at.0 (passed place gone.0) stands gone.1.0).is_so in
          let same : gone.0 ≡ pair = same_some gone.0 pair (sym k.there ∙ there) in
          subst (λ (x : WriteState × CommitPair). x.1.decision ≤ length x.0.history) (λ i. (table_is i, same i)) k.published_by

      itself_low : DecidesItself s.knows (length d.history) place → pair.decision ≤ length d.history
      itself_low k =
          let same : commit_pair k.2 k.2 ≡ pair = same_some (commit_pair k.2 k.2) pair (sym k.5 ∙ in_words k.0 k.1 k.3) in subst (λ (x : CommitPair). x.decision ≤ length d.history) same k.4

      low : pair.decision ≤ length d.history
      low = ⊎_elim unentered_low (λ (r : IsReadyAt s.knows (length d.history) place). ⊎_elim cleared_low itself_low r) ready

      at_pair : IsFound (numbers_of pair)
      at_pair =
          let number = ordered.1 in let most = low in record {
            bound = noted.0;
            words = noted.1;
            noted = noted.2;
            within = subst (λ (n : ℕ). place < n) (sym (words_are noted.0 noted.1 noted.2)) within;
            there = in_words noted.0 noted.1 noted.2;
            published = low;
            decided = extended_was d.history d.pending pair.number pair.decision (omega (arith, number, most)) low decided;
            ordered = ordered.1;
          }

    by_pair : (o : Option CommitPair) → pair_of z.cells place word ≡ o → IfSome (option_map numbers_of o) IsFound
    by_pair None is = tt
    by_pair (Some pair) is = at_pair pair is

    pub found : (o : Option (ℕ × ℕ)) → o ≡ option_map numbers_of (pair_of z.cells place word) → IfSome o IsFound
    found o is = subst (λ (x : Option (ℕ × ℕ)). IfSome x IsFound) (sym is) (by_pair (pair_of z.cells place word) refl)
