use Rattle.std.proofs.Common.{rules}
use Rattle.wp_rule.proofs.Seats.{learns}
use Rattle.wp_rule.proofs.words.Words.learn.Goals as goal

pub join_seat-requires : goal.join_seat-requires
join_seat-requires g c = (search rules, search rules, c.requires.note.1, search rules, learns g.S.HoldsPart.content (g.S.HoldsPart.tells _) _ _ _ _ _ _ _ c.requires.note.0)
