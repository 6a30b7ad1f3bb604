use Rattle.std.proofs.Common.{◌≡◌, ⊎_elim, inl, inr, ℕ, ◌≤◌, [], ◌∷◌, length, refl, sym, subst, ap, ◌∙◌}
use Rattle.wp_judge.specs.Words.{commit_pair}
use Rattle.wp_core.specs.Lists.{IsIn}
use Rattle.wp_core.specs.States.{writes}
use Rattle.wp_core.specs.Views.{words_stay}
use Rattle.wp_rule.specs.Knows.{Noted}
use Rattle.wp_shared.specs.Seats.{SeatState}
use Rattle.wp_commits.specs.Bound.{raised}
use Rattle.wp_commits.specs.Cleared.{IsThere, IsCleared}
use Rattle.wp_commits.specs.Notes.{is_of_words}
use Rattle.wp_commits.proofs.Clears.{passed_there, still_cleared, then_own}
use Rattle.wp_commits.proofs.clear.clear_own.Goals as goal

pub let_pass-requires : goal.let_pass-requires
let_pass-requires g c = record { seat = c.requires.seat; held = c.requires.held; wanted = c.requires.wanted; there = c.requires.there }

pub returns-then-p-c : goal.returns-then-p-c
returns-then-p-c g c = let s = c.args.seat.now in let d = c.args.log.now.state in let t = c.let_pass.new.seat in record {
  seat = c.let_pass.ensures.seat;
  bound = c.let_pass.ensures.bound;
  cleared = ⊎_elim
      (λ (k : IsCleared s.knows c.args.place).
      still_cleared is_of_words s t (writes d ∷ []) s.turns c.args.place (λ fact e. e) c.let_pass.ensures.seat
      (λ bound words there. (raised c.args.store.now.cells (length d.history) bound c.args.c, c.let_pass.ensures.bound bound words there)) k)
      (λ (same : c.args.p ≡ c.args.c). absurd (c.if-p-c.true same))
      c.requires.ready;
}

pub note_own-requires : goal.note_own-requires
note_own-requires g c = let k = c.requires.there in let d = c.args.log.now.state in let t = c.let_pass.new.seat in let same = c.let_pass.ensures.seat.same in record {
  seat = (ap (λ (x : SeatState). x.table) same ∙ c.requires.seat.0, ap (λ (x : SeatState). x.knows.live) same ∙ c.requires.seat.1);
  held = subst (IsIn (writes d)) (sym (ap (λ (x : SeatState). x.knows.held) same)) (inl refl);
  passed = subst (λ (n : ℕ). (l : IsThere t.knows d.history c.args.place n c.args.c) × (c.args.c ≤ l.bound)) c.if-p-c.false
      (passed_there c.args.seat.now.knows t.knows d.history c.args.place c.args.p c.args.c c.args.store.now.cells (length d.history) k (c.let_pass.ensures.bound k.bound k.words k.noted));
}

pub returns : goal.returns
returns g c = let s = c.args.seat.now in let d = c.args.log.now.state in let t = c.let_pass.new.seat in let u = c.note_own.new.seat in record {
  seat = then_own s t u is_of_words c.args.place (commit_pair c.args.c c.args.c) (writes d ∷ []) s.turns c.let_pass.ensures.seat c.note_own.ensures;
  bound = λ bound words there.
      let fact = words_stay (raised c.args.store.now.cells (length d.history) bound c.args.c) words in
      subst (λ (x : SeatState). Noted x.knows fact) (sym c.note_own.ensures) (inr (inr (inr (c.let_pass.ensures.bound bound words there))));
  cleared = subst (λ (x : SeatState). IsCleared x.knows c.args.place) (sym c.note_own.ensures) (inr (commit_pair c.args.c c.args.c, (inr (inr (inl refl)), inr (inl refl), inl refl)));
}
