use Rattle.std.proofs.Common.{◌≡◌, inr, ℕ, ◌<◌, ◌≤◌, [], ◌∷◌, refl, sym, subst, ap, ◌∙◌}
use Rattle.wp_judge.specs.Words.{commit_pair}
use Rattle.wp_core.specs.States.{prepared, writes}
use Rattle.wp_core.specs.Turns.{prepared_turn}
use Rattle.wp_core.specs.Views.{words_stay}
use Rattle.wp_rule.specs.Knows.{Noted}
use Rattle.wp_shared.specs.Notes.{GoesOn, DelayedFlagTells}
use Rattle.wp_shared.specs.Seats.{SeatState}
use Rattle.wp_shared.proofs.Tables.{knows_to_give}
use Rattle.wp_commits.specs.Notes.{is_of_words}
use Rattle.wp_commits.proofs.Clears.{stays_at, reached_low, reached_high, words_under_prepared}
use Rattle.wp_commits.proofs.Through.{held_taken, holds_still, goes_through}
use Rattle.wp_commits.proofs.Words.{bound_is}
use Rattle.wp_commits.proofs.clear.reach.Goals as goal

pub returns-then-p-bound : goal.returns-then-p-bound
returns-then-p-bound g c = let s = c.args.seat.now in let d = c.args.log.now.state in let r = c.max-bound.new.seat in let same = c.max-bound.ensures.same in record {
  seat = stays_at s r r r is_of_words (writes d ∷ []) same c.requires.held;
  bound = λ bound words there.
      let is : c.max-bound.result ≡ bound = bound_is c.args.store.now c.args.seat.now c.max-bound.new.seat c.max-bound.result c.max-bound.ensures.same c.max-bound.ensures.found bound words there in
      let low : c.args.p ≤ bound = subst (λ (n : ℕ). c.args.p ≤ n) is c.if-p-bound.true in
      subst (λ (x : SeatState × ℕ). Noted x.0.knows (words_stay x.1 words)) (λ i. (sym same i, sym (reached_low c.args.p bound low) i)) there;
}

pub take_turn-tables-requires-clause-seat : goal.take_turn-tables-requires-clause-seat
take_turn-tables-requires-clause-seat g c = let same = c.max-bound.ensures.same in (ap (λ (x : SeatState). x.table) same ∙ c.requires.seat.0, ap (λ (x : SeatState). x.knows.live) same ∙ c.requires.seat.1)

pub raise-requires-clause-seat : goal.raise-requires-clause-seat
raise-requires-clause-seat g c = c.take_turn-tables.ensures.taken.holds.same_table

pub raise-requires-clause-held : goal.raise-requires-clause-held
raise-requires-clause-held g c = let z = c.args.store.now in let s = c.args.seat.now in let d = c.args.log.now.state in let t = c.take_turn-tables in
    held_taken z c.max-bound.new.seat t.new.seat s (prepared t.result.value) (prepared t.result.value) (writes d ∷ []) (ap (λ (x : SeatState). x.knows.held) c.max-bound.ensures.same ∙ c.requires.held) t.ensures.taken
    ∙ ap (λ x. prepared x ∷ writes d ∷ []) (sym c.deref_mut.ensures.value)

pub raise-requires-clause-rises : goal.raise-requires-clause-rises
raise-requires-clause-rises g c =
    let k = c.requires.words in let t = c.take_turn-tables in
    let is : c.max-bound.result ≡ k.0 = bound_is c.args.store.now c.args.seat.now c.max-bound.new.seat c.max-bound.result c.max-bound.ensures.same c.max-bound.ensures.found k.0 k.1 k.2 in
    let high : k.0 < c.args.p = subst (λ (n : ℕ). n < c.args.p) is c.if-p-bound.false in
    inr (record {
      pair = commit_pair c.args.p c.args.c;
      pending = c.requires.wanted;
      wide = c.requires.wide;
      above = (k.0, k.1, t.ensures.taken.goes.noted (words_stay k.0 k.1) refl (subst (λ (x : SeatState). Noted x.knows (words_stay k.0 k.1)) (sym c.max-bound.ensures.same) k.2), high);
      is = refl;
    })

pub raise-requires-clause-flag : goal.raise-requires-clause-flag
raise-requires-clause-flag g c = let t = c.take_turn-tables in subst (DelayedFlagTells t.new.seat.knows) (sym c.deref_mut.ensures.value) t.ensures.taken.knows

pub give_turn-requires-clause-holds : goal.give_turn-requires-clause-holds
give_turn-requires-clause-holds g c = let z = c.args.store.now in let s = c.args.seat.now in let d = c.args.log.now.state in let r = c.max-bound.new.seat in let t = c.take_turn-tables in let u = c.raise in
    (writes d ∷ [], r.turns, holds_still z r t.new.seat u.new.seat (prepared t.result.value) (prepared u.new.tables) (writes d ∷ []) (ap (λ (x : SeatState). x.knows.held) c.max-bound.ensures.same ∙ c.requires.held) t.ensures.taken is_of_words _ u.ensures.seat refl)

pub give_turn-requires-clause-knows : goal.give_turn-requires-clause-knows
give_turn-requires-clause-knows g c = let u = c.raise in knows_to_give u.new.seat.knows (prepared u.new.tables) u.ensures.flag

pub returns : goal.returns
returns g c = let z = c.args.store.now in let s = c.args.seat.now in let d = c.args.log.now.state in let r = c.max-bound.new.seat in let same = c.max-bound.ensures.same in let t = c.take_turn-tables in let u = c.raise in let v = c.give_turn.new.seat in
    let held : r.knows.held ≡ writes d ∷ [] = ap (λ (x : SeatState). x.knows.held) same ∙ c.requires.held in
    let holds = holds_still z r t.new.seat u.new.seat (prepared t.result.value) (prepared u.new.tables) (writes d ∷ []) held t.ensures.taken is_of_words _ u.ensures.seat refl in
    let gave = (c.give_turn.ensures (writes d ∷ []) r.turns holds).goes in
    let goes = goes_through z r t.new.seat u.new.seat (prepared t.result.value) (prepared u.new.tables) (writes d ∷ []) held t.ensures.taken is_of_words _ u.ensures.seat refl prepared_turn v words_under_prepared gave in
    record {
      seat = subst (λ (x : SeatState). GoesOn is_of_words (writes d ∷ []) x.turns x v) same goes;
      bound = λ bound words there.
          let is : c.max-bound.result ≡ bound = bound_is c.args.store.now c.args.seat.now c.max-bound.new.seat c.max-bound.result c.max-bound.ensures.same c.max-bound.ensures.found bound words there in
          let high : bound < c.args.p = subst (λ (n : ℕ). n < c.args.p) is c.if-p-bound.false in
          subst (λ (b : ℕ). Noted v.knows (words_stay b words)) (sym (reached_high c.args.p bound high))
          (gave.noted (words_stay c.args.p words) refl (u.ensures.bound bound words (t.ensures.taken.goes.noted (words_stay bound words) refl (subst (λ (x : SeatState). Noted x.knows (words_stay bound words)) (sym same) there))));
    }
