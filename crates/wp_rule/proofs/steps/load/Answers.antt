use Rattle.std.proofs.Common.{rules}
use Rattle.wp_rule.proofs.KeepsRule.{loads}
use Rattle.wp_rule.proofs.steps.load.Goals as goal

pub load-requires : goal.load-requires
load-requires g c = (search rules, search rules, loads g.S.HoldsPart.content (g.S.HoldsPart.tells c.args.table.now.key.first.value.items) _ _ _ _ _ _ _ _ g.J.Moves.steps c.requires.seat.1 c.requires.may)
