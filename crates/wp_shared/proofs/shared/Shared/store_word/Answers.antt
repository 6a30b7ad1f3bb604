use Rattle.std.proofs.Common.{◌≡◌, ◌<◌, subst, sym, ap, ◌∙◌}
use Rattle.wp_core.specs.Cache.{cache_place}
use Rattle.wp_core.specs.Steps.{store_word}
use Rattle.wp_shared.specs.Seats.{SharedState}
use Rattle.wp_shared.proofs.Clients.{moved_keeps}
use Rattle.wp_shared.proofs.Places.{moved_there, may_there, still_sits}
use Rattle.wp_shared.proofs.shared.Shared.store_word.Goals as goal
use Rattle.wp_judge.specs.Words.{word_of, pair_of}

pub store_word-requires-clause-pair : goal.store_word-requires-clause-pair
store_word-requires-clause-pair g c = let t = c.requires.pair in let store = sym c.self.view_is in (
  t.0,
  t.1 ∙ ap (λ (z : SharedState _). word_of z.cells t.0) store,
  ap (λ (z : SharedState _). pair_of z.cells c.args.i c.args.word) c.self.view_is ∙ t.2,
  subst (λ (z : SharedState _). c.args.i < z.cells) store t.3,
  subst (λ (z : SharedState _). c.args.i ≡ cache_place z.cells t.0.number) store t.4,
  may_there _ _ (store_word t.0) _ _ store (sym c.seat.view_is) t.5,
)

pub invariant_of-seat : goal.invariant_of-seat
invariant_of-seat g c = let t = c.requires.pair in
    still_sits _ _ _ c.seat.inside.seat.me.0 c.store_word.new.seat.me.0 c.store_word.ensures.same.2 (moved_keeps _ _ _ _ _ (λ w. (tt, (tt, tt))) (c.store_word.ensures.moved t.0 (ap (λ (z : SharedState _). pair_of z.cells c.args.i c.args.word) c.self.view_is ∙ t.2))) c.seat.invariant

pub returns-clause-moved : goal.returns-clause-moved
returns-clause-moved g c pair is = moved_there _ _ _ _ _ _ _ c.self.view_is c.seat.view_is (c.store_word.ensures.moved pair (ap (λ (z : SharedState _). pair_of z.cells c.args.i c.args.word) c.self.view_is ∙ is))
