use Rattle.std.proofs.Common.{rules}
use Rattle.wp_rule.proofs.Seats.{joins_it}
use Rattle.wp_rule.proofs.words.Words.join.Goals as goal

pub join_seat-requires : goal.join_seat-requires
join_seat-requires g c = (search rules, search rules, c.requires.other.2, search rules, joins_it g.S.HoldsPart.content (g.S.HoldsPart.tells _) _ _ _ _ _ _ _ c.requires.seats.2 c.requires.other.0 c.requires.other.1)
