use Rattle.std.proofs.Common.{◌≡◌, ◌∙◌, sym, subst, ap, arith, ℕ, ◌+◌, ◌-◌}
use Rattle.wp_core.specs.Cache.{cache_place}
use Rattle.wp_core.specs.Steps.{store_word}
use Rattle.wp_rule.specs.Words.{SharedWords, place_of}
use Rattle.wp_rule.specs.Moves.{MayStep, Moved, storing_word}
use Rattle.wp_rule.proofs.Stores.{may_word}
use Rattle.wp_rule.proofs.Told.{word_told}
use Rattle.wp_rule.proofs.words.Words.store_word.Goals as goal
use Rattle.wp_judge.specs.Words.{word_of, pair_of}

behind : (i : ℕ) → 56 + i - 56 ≡ i
behind i = omega arith

pub overflow_add-i : goal.overflow_add-i
overflow_add-i g c = let few = c.self.invariant.2 in let low = c.requires.pair.3 in let same : c.self.inside.table.shared.key.cells ≡ c.args.self.now.cells = ap (λ (z : SharedWords _). z.cells) c.self.view_is in omega (arith, same)

pub store-requires-clause-may : goal.store-requires-clause-may
store-requires-clause-may g c = let t = c.requires.pair in
    let view = c.self.view_is in
    may_word _ _ _ _ t.0 _ (t.1 ∙ ap (λ (z : SharedWords _). word_of z.cells t.0) (sym view)) ((λ i. pair_of (view i).cells (behind c.args.i i) c.args.word) ∙ t.2) (t.4 ∙ ap (λ (z : SharedWords _). cache_place z.cells t.0.number) (sym c.self.view_is)) (subst (λ (z : SharedWords _). MayStep (place_of g.S.HoldsPart.content z c.args.seat.now.id) c.args.seat.now.me.0 (store_word t.0)) (sym c.self.view_is) t.5)

pub returns-clause-moved : goal.returns-clause-moved
returns-clause-moved g c pair is = subst (λ (z : SharedWords _). Moved (place_of g.S.HoldsPart.content z c.args.seat.now.id) (storing_word pair) (λ w. Unit {0}) c.args.seat.now.me.0 c.store.new.seat.me.0) c.self.view_is (word_told _ _ _ pair _ ((λ i. pair_of (c.self.view_is i).cells (behind c.args.i i) c.args.word) ∙ is) c.store.ensures.moved)
