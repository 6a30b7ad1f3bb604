use Rattle.std.proofs.Common.{◌≡◌, ⊎_elim, inl, inr, ℕ, List, [], ◌∷◌, length, refl, sym, subst, ap, ◌∙◌, Option, None}
use Rattle.wp_judge.specs.Words.{CommitPair, commit_pair}
use Rattle.wp_core.specs.Cache.{pair_at}
use Rattle.wp_core.specs.Lists.{IsIn}
use Rattle.wp_core.specs.States.{writes}
use Rattle.wp_core.specs.Views.{words_stay}
use Rattle.wp_model.proofs.Tests.{same_some}
use Rattle.wp_rule.specs.Knows.{Noted}
use Rattle.wp_shared.specs.Seats.{SeatState}
use Rattle.wp_commits.specs.Bound.{bound_after}
use Rattle.wp_commits.specs.Cleared.{IsThere, IsEmptyAt, IsCleared, DecidesItself}
use Rattle.wp_commits.specs.Notes.{is_of_words}
use Rattle.wp_commits.proofs.Clears.{no_pair, that_pair, stays_at, goes_from}
use Rattle.wp_commits.proofs.entering.clear_again.Goals as goal

pub pair-requires : goal.pair-requires
pair-requires g c = let d = c.args.log.now.state in record { seat = c.requires.seat.0; held = subst (IsIn (writes d)) (sym c.requires.held) (inl refl); within = c.requires.within; words = c.requires.words; published = inr c.requires.ready }

pub returns-in-None : goal.returns-in-None
returns-in-None g c = let s = c.args.seat.now in let d = c.args.log.now.state in let r = c.pair.new.seat in let same = c.pair.ensures.same in let k = c.requires.words in
    let none : (bound : ℕ) (words : List ℕ) → Noted s.knows (words_stay bound words) → pair_at words c.args.place ≡ None =
    λ bound words there. no_pair (pair_at words c.args.place) (sym c.in-None.is ∙ c.pair.ensures.pair bound words there) in
    record {
      seat = stays_at s r r r is_of_words (writes d ∷ []) same c.requires.held;
      bound = λ bound words there.
          subst (λ (x : SeatState × Option CommitPair). Noted x.0.knows (words_stay (bound_after c.args.store.now.cells (length d.history) bound x.1) words)) (λ i. (sym same i, sym (none bound words there) i)) there;
      cleared = inl (subst (λ (x : SeatState). IsEmptyAt x.knows c.args.place) (sym same) (k.0, k.1, k.2, none k.0 k.1 k.2));
    }

pub clear_own-requires : goal.clear_own-requires
clear_own-requires g c = let d = c.args.log.now.state in let same = c.pair.ensures.same in record {
  seat = (ap (λ (x : SeatState). x.table) same ∙ c.requires.seat.0, ap (λ (x : SeatState). x.knows.live) same ∙ c.requires.seat.1);
  held = ap (λ (x : SeatState). x.knows.held) same ∙ c.requires.held;
  wanted = c.requires.wanted;
  there = subst (λ (x : SeatState). IsThere x.knows d.history c.args.place c.in-Some.p c.in-Some.c) (sym same) c.in-Some.ensures.there;
  ready = ⊎_elim
      (λ (k : IsCleared c.args.seat.now.knows c.args.place). inl (subst (λ (x : SeatState). IsCleared x.knows c.args.place) (sym same) k))
      (λ (k : DecidesItself c.args.seat.now.knows (length d.history) c.args.place).
      let that = that_pair (pair_at k.1 c.args.place) c.in-Some.p c.in-Some.c (sym c.in-Some.is ∙ c.pair.ensures.pair k.0 k.1 k.3) in
      let own = same_some (commit_pair c.in-Some.p c.in-Some.c) (commit_pair k.2 k.2) (sym that ∙ k.5) in
      inr (ap (λ (x : CommitPair). x.number) own ∙ sym (ap (λ (x : CommitPair). x.decision) own)))
      c.requires.ready;
}

pub returns-in-Some : goal.returns-in-Some
returns-in-Some g c = let s = c.args.seat.now in let d = c.args.log.now.state in let r = c.pair.new.seat in let u = c.clear_own.new.seat in let same = c.pair.ensures.same in record {
  seat = goes_from s r u u is_of_words (writes d ∷ []) same c.clear_own.ensures.seat;
  bound = λ bound words there.
      let that = that_pair (pair_at words c.args.place) c.in-Some.p c.in-Some.c (sym c.in-Some.is ∙ c.pair.ensures.pair bound words there) in
      subst (λ (x : Option CommitPair). Noted u.knows (words_stay (bound_after c.args.store.now.cells (length d.history) bound x) words)) (sym that)
      (c.clear_own.ensures.bound bound words (subst (λ (x : SeatState). Noted x.knows (words_stay bound words)) (sym same) there));
  cleared = c.clear_own.ensures.cleared;
}
