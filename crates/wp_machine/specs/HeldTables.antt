-- Where the state of a turn is among those that an actor holds.
use Rattle.std.specs.Prelude.{ℕ, ◌+◌, ◌==◌, List, [], ◌∷◌, Option, Some, None, if◌then◌else◌}
use Rattle.wp_core.specs.Turns.{Turn}
use Rattle.wp_core.specs.States.{Content, turn_of}
use Rattle.wp_core.specs.Changes.{turn_index}

-- the place of the first one, where the list begins at this place
abbrev pub place_from : Turn → ℕ → List Content → Option ℕ
place_from turn i [] = None
place_from turn i (c ∷ held) = if turn_index (turn_of c) == turn_index turn then Some i else place_from turn (i + 1) held
