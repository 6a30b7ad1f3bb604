use Rattle.std.proofs.Common.{rules}
use Rattle.wp_rule.proofs.KeepsRule.{stores}
use Rattle.wp_rule.proofs.steps.store.Goals as goal

pub store-requires : goal.store-requires
store-requires g c = (search rules, search rules, stores g.S.HoldsPart.content (g.S.HoldsPart.tells c.args.table.now.key.first.value.items) _ _ _ _ _ _ _ _ _ g.J.Moves.steps c.requires.seat.1 c.requires.may)
