use Rattle.std.proofs.Common.{[], ◌∷◌, subst}
use Rattle.wp_core.specs.Steps.{give_turn}
use Rattle.wp_core.specs.Turns.{turn_of}
use Rattle.wp_rule.specs.Words.{SharedWords, place_of}
use Rattle.wp_rule.specs.Moves.{Moved}
use Rattle.wp_rule.proofs.words.Words.unclaim.Goals as goal

pub returns-clause-moved : goal.returns-clause-moved
returns-clause-moved g c = subst (λ (z : SharedWords _). Moved (place_of g.S.HoldsPart.content z c.args.seat.now.id) (λ w. give_turn (turn_of c.args.turn) ∷ []) (λ w. Unit {0}) c.args.seat.now.me.0 c.unclaim.new.seat.me.0) c.self.view_is c.unclaim.ensures.moved
