use Rattle.std.proofs.Common.{◌≡◌, inl, ℕ, ◌<◌, ◌≤◌, [], ◌∷◌, length, sym, subst, ap, ◌∙◌, arith}
use Rattle.wp_core.specs.States.{prepared, writes}
use Rattle.wp_core.specs.Views.{words_stay}
use Rattle.wp_model.specs.Legal.{log_end}
use Rattle.wp_judge.specs.Words.{commit_pair, seq_end}
use Rattle.wp_rule.specs.Knows.{Noted, KnowsPair}
use Rattle.wp_shared.specs.Notes.{DelayedFlagTells}
use Rattle.wp_shared.specs.Seats.{SeatState}
use Rattle.wp_rule.specs.Bound.{bound_past}
use Rattle.wp_commits.specs.Bound.{raised}
use Rattle.wp_commits.specs.Notes.{is_of_words}
use Rattle.wp_commits.proofs.Clears.{raised_low, raised_high, stays_at, goes_from}
use Rattle.wp_commits.proofs.Words.{bound_is}
use Rattle.wp_commits.proofs.clear.raise_past.Goals as goal

before_end : (c n found : ℕ) → c ≤ n → found ≡ n → found < log_end → c < seq_end
before_end c n found low is few = omega arith

pub returns-then-c-bound : goal.returns-then-c-bound
returns-then-c-bound g c = let z = c.args.store.now in let s = c.args.seat.now in let d = c.args.log.now.state in let t = c.args.tables.now in let b = c.max-bound in let r = b.new.seat in record {
  seat = stays_at s r r r is_of_words (prepared t ∷ writes d ∷ []) b.ensures.same c.requires.held;
  flag = subst (λ (x : SeatState). DelayedFlagTells x.knows t) (sym b.ensures.same) c.requires.flag;
  bound = λ bound words there.
      let is : b.result ≡ bound = bound_is z s r b.result b.ensures.same b.ensures.found bound words there in
      let low : c.args.c ≤ bound = subst (λ (n : ℕ). c.args.c ≤ n) is c.if-c-bound.true in
      subst (λ (x : SeatState × ℕ). Noted x.0.knows (words_stay x.1 words)) (λ i. (sym b.ensures.same i, sym (raised_low z.cells (length d.history) bound c.args.c low) i)) there;
}

pub bound_past-m-requires : goal.bound_past-m-requires
bound_past-m-requires g c = before_end c.args.c (length c.args.log.now.state.history) c.published.result c.requires.there.published c.published.ensures.value c.published.ensures.few

pub raise-requires : goal.raise-requires
raise-requires g c =
    let z = c.args.store.now in let s = c.args.seat.now in let d = c.args.log.now.state in let b = c.max-bound in let same = b.ensures.same in let k = c.requires.there in let w = c.requires.wanted in
    let is : b.result ≡ k.bound = bound_is z s b.new.seat b.result same b.ensures.found k.bound k.words k.noted in
    let high : k.bound < c.args.c = subst (λ (n : ℕ). n < c.args.c) is c.if-c-bound.false in
    record {
      seat = ap (λ (x : SeatState). x.table) same ∙ c.requires.seat;
      held = ap (λ (x : SeatState). x.knows.held) same ∙ c.requires.held;
      rises = inl (record {
        pair = w.0;
        pending = w.1;
        narrow = w.3;
        gone = commit_pair c.args.p c.args.c;
        there = subst (λ (x : SeatState × ℕ). KnowsPair x.0.knows (length d.history) x.1 (commit_pair c.args.p c.args.c) (λ bound. bound < c.args.c)) (λ i. (sym same i, w.2 i)) (k.bound, k.words, k.noted, k.within, k.there, k.published, high);
        past = c.bound_past-m.ensures ∙ (λ i. bound_past (c.cells.ensures.0 i) (c.published.ensures.value i) c.args.c);
      });
      flag = subst (λ (x : SeatState). DelayedFlagTells x.knows c.args.tables.now) (sym same) c.requires.flag;
    }

pub returns : goal.returns
returns g c = let z = c.args.store.now in let s = c.args.seat.now in let d = c.args.log.now.state in let b = c.max-bound in let same = b.ensures.same in let u = c.raise.new.seat in record {
  seat = goes_from s b.new.seat u u is_of_words (prepared c.raise.new.tables ∷ writes d ∷ []) same c.raise.ensures.seat;
  flag = c.raise.ensures.flag;
  bound = λ bound words there.
      let is : b.result ≡ bound = bound_is z s b.new.seat b.result same b.ensures.found bound words there in
      let high : bound < c.args.c = subst (λ (n : ℕ). n < c.args.c) is c.if-c-bound.false in
      let m : c.bound_past-m.result ≡ raised z.cells (length d.history) bound c.args.c =
      c.bound_past-m.ensures ∙ ((λ i. bound_past (c.cells.ensures.0 i) (c.published.ensures.value i) c.args.c) ∙ sym (raised_high z.cells (length d.history) bound c.args.c high)) in
      subst (λ (x : ℕ). Noted u.knows (words_stay x words)) m (c.raise.ensures.bound bound words (subst (λ (x : SeatState). Noted x.knows (words_stay bound words)) (sym same) there));
}
