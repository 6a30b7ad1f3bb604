use Rattle.std.proofs.Common.{◌-◌}
use Rattle.wp_judge.specs.Words.{pair_of}
use Rattle.wp_rule.specs.Words.{shared_words, place_of}
use Rattle.wp_rule.specs.Moves.{storing}
use Rattle.wp_rule.proofs.words.Words.store_word.Given as goal

abbrev pub ghosts-store : goal.ghosts-store
ghosts-store g a = record { place = place_of g.S.HoldsPart.content (shared_words a.table.now.table_id a.table.now.key) a.seat.now.id; steps = storing (pair_of a.table.now.key.cells (a.word - 56) a.n) }
