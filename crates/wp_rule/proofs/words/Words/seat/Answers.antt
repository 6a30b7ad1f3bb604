use Rattle.std.proofs.Common.{rules}
use Rattle.wp_rule.proofs.Seats.{seats}
use Rattle.wp_rule.proofs.words.Words.seat.Goals as goal

pub split_seat-requires : goal.split_seat-requires
split_seat-requires g c = (search rules, search rules, seats g.S.HoldsPart.content (g.S.HoldsPart.tells _) _ _ _ _ _ c.requires.1)
