use Rattle.std.specs.Prelude.{[], ◌∷◌}
use Rattle.wp_core.specs.Steps.{load_published}
use Rattle.wp_rule.specs.Words.{shared_words, place_of}
use Rattle.wp_rule.proofs.words.Words.load_published.Given as goal

abbrev pub ghosts-load : goal.ghosts-load
ghosts-load g a = record { place = place_of g.S.HoldsPart.content (shared_words a.table.now.table_id a.table.now.key) a.seat.now.id; steps = λ w. load_published ∷ [] }
