use Rattle.std.proofs.Common.{rules, ◌∙◌, sym, ap}
use Rattle.wp_rule.specs.Words.{turn_place}
use Rattle.wp_rule.proofs.KeepsRule.{unclaims}
use Rattle.wp_rule.proofs.steps.unclaim.Goals as goal

pub store-requires : goal.store-requires
store-requires g c = (search rules, search rules, unclaims g.S.HoldsPart.content (g.S.HoldsPart.tells c.args.table.now.key.first.value.items) _ _ _ _ _ _ _ _ g.J.OfTurn.turn c.requires.seat.1 (c.turn_place.ensures ∙ sym (ap turn_place c.requires.turn.0)) c.requires.held)
