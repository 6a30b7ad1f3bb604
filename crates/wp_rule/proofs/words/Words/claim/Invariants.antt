use Rattle.wp_core.specs.Turns.{turn_of}
use Rattle.wp_rule.specs.Words.{shared_words, place_of}
use Rattle.wp_rule.proofs.words.Words.claim.Given as goal

abbrev pub ghosts-claim : goal.ghosts-claim
ghosts-claim g a = record { place = place_of g.S.HoldsPart.content (shared_words a.table.now.table_id a.table.now.key) a.seat.now.id; turn = turn_of a.turn; first = a.table.now.key.first.value.items }
