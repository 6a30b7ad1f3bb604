use Rattle.std.specs.Prelude.{[], ◌∷◌}
use Rattle.wp_core.specs.Steps.{store_old_flag, note}
use Rattle.wp_core.specs.Views.{old_flag_stays}
use Rattle.wp_rule.specs.Words.{shared_words, place_of}
use Rattle.wp_rule.proofs.words.Words.store_old_flag.Given as goal

abbrev pub ghosts-store : goal.ghosts-store
ghosts-store g a = record { place = place_of g.S.HoldsPart.content (shared_words a.table.now.table_id a.table.now.key) a.seat.now.id; steps = λ w. store_old_flag a.n ∷ note (old_flag_stays a.n) ∷ [] }
