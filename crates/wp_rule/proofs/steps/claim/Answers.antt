use Rattle.std.proofs.Common.{rules, ◌∙◌, sym, ap}
use Rattle.wp_rule.specs.Words.{turn_place}
use Rattle.wp_rule.proofs.KeepsRule.{claims, chosen}
use Rattle.wp_rule.proofs.steps.claim.Goals as goal

pub compare_exchange-requires : goal.compare_exchange-requires
compare_exchange-requires g c = (search rules, search rules, claims g.S.HoldsPart.content g.S.HoldsPart.tells _ _ _ _ _ _ _ _ g.J.OfTurn.turn _ c.requires.seat.1 (c.turn_place.ensures ∙ sym (ap turn_place c.requires.turn.0)) c.requires.first c.requires.live)

pub returns-clause-claimed : goal.returns-clause-claimed
returns-clause-claimed g c = let did = c.compare_exchange.ensures.2 in chosen c.compare_exchange.result _ _ did.0 did.1
