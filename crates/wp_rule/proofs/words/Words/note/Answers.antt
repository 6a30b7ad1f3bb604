use Rattle.std.proofs.Common.{rules}
use Rattle.wp_rule.proofs.Seats.{notes}
use Rattle.wp_rule.proofs.words.Words.note.Goals as goal

pub split_seat-requires : goal.split_seat-requires
split_seat-requires g c = (search rules, search rules, notes g.S.HoldsPart.content (g.S.HoldsPart.tells _) _ _ _ _ _)
