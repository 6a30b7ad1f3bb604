use Rattle.std.specs.Prelude.{[], ◌∷◌}
use Rattle.wp_core.specs.Steps.{set_client}
use Rattle.wp_rule.specs.Words.{place_of}
use Rattle.wp_parts.specs.Parts.{content}
use Rattle.wp_shared.proofs.shared.Shared.seat.Given as goal

abbrev pub ghosts-name_seat : goal.ghosts-name_seat
ghosts-name_seat g a = record { place = place_of content a.words.now a.seat.now.id; steps = λ w. set_client a.client.now ∷ [] }
