use Rattle.std.proofs.Common.{sym, subst}
use Rattle.wp_core.specs.Steps.{store_max_evicted}
use Rattle.wp_rule.specs.Knows.{Knows}
use Rattle.wp_rule.specs.Words.{SharedWords, place_of}
use Rattle.wp_rule.specs.Moves.{Moved, storing_max}
use Rattle.wp_rule.proofs.Needed.{needed}
use Rattle.wp_rule.proofs.Stores.{may_max}
use Rattle.wp_rule.proofs.words.Words.store_max.Goals as goal

pub store-requires-clause-may : goal.store-requires-clause-may
store-requires-clause-may g c =
    let known = subst (λ (z : SharedWords _). Knows (place_of g.S.HoldsPart.content z c.args.seat.now.id) c.args.seat.now.me.0 (store_max_evicted c.args.m)) (sym c.self.view_is) c.requires.rises in
    may_max _ _ _ (λ w k. needed _ _ w k (store_max_evicted c.args.m) known)

pub returns-clause-moved : goal.returns-clause-moved
returns-clause-moved g c = subst (λ (z : SharedWords _). Moved (place_of g.S.HoldsPart.content z c.args.seat.now.id) (storing_max c.args.m) (λ w. Unit {0}) c.args.seat.now.me.0 c.store.new.seat.me.0) c.self.view_is c.store.ensures.moved
