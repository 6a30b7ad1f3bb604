use Rattle.std.proofs.Common.{◌≡◌, [], ◌∷◌, sym, subst}
use Rattle.wp_core.specs.Steps.{store_published}
use Rattle.wp_rule.specs.Words.{SharedWords, place_of}
use Rattle.wp_rule.specs.Moves.{MayPublishAs, Moved}
use Rattle.wp_rule.proofs.Stores.{may_publish}
use Rattle.wp_rule.proofs.Told.{publish_told}
use Rattle.wp_rule.proofs.words.Words.store_published.Goals as goal

pub store-requires-clause-may : goal.store-requires-clause-may
store-requires-clause-may g c = may_publish _ _ _ (subst (λ (z : SharedWords _). MayPublishAs (place_of g.S.HoldsPart.content z c.args.seat.now.id) c.args.seat.now.me.0 c.args.p) (sym c.self.view_is) c.requires.next)

pub returns-clause-published : goal.returns-clause-published
returns-clause-published g c t entry others held pending =
    subst (λ (z : SharedWords _). Moved (place_of g.S.HoldsPart.content z c.args.seat.now.id) (λ w. store_published entry others ∷ []) (λ w. w.writes ≡ t) c.args.seat.now.me.0 c.store.new.seat.me.0) c.self.view_is (publish_told _ _ _ c.store.ensures.moved t entry others held pending)
