use Rattle.std.proofs.Common.{[], ◌∷◌, sym, subst}
use Rattle.wp_core.specs.Steps.{store_old_flag, note}
use Rattle.wp_core.specs.Views.{old_flag_stays}
use Rattle.wp_rule.specs.Words.{SharedWords, place_of}
use Rattle.wp_rule.specs.Moves.{MayStep, Moved}
use Rattle.wp_rule.proofs.Stores.{may_old}
use Rattle.wp_rule.proofs.words.Words.store_old_flag.Goals as goal

pub store-requires-clause-may : goal.store-requires-clause-may
store-requires-clause-may g c = may_old _ _ _ (subst (λ (z : SharedWords _). MayStep (place_of g.S.HoldsPart.content z c.args.seat.now.id) c.args.seat.now.me.0 (store_old_flag c.args.value)) (sym c.self.view_is) c.requires.may)

pub returns-clause-moved : goal.returns-clause-moved
returns-clause-moved g c =
    subst (λ (z : SharedWords _). Moved (place_of g.S.HoldsPart.content z c.args.seat.now.id) (λ w. store_old_flag c.args.value ∷ note (old_flag_stays c.args.value) ∷ []) (λ w. Unit {0}) c.args.seat.now.me.0 c.store.new.seat.me.0) c.self.view_is c.store.ensures.moved
