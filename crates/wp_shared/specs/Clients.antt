-- Which steps leave a seat to the client that it is of.
use Rattle.std.specs.Prelude.{List, [], ◌∷◌}
use Rattle.wp_core.specs.Steps.{Step, set_client, learn, join_seat}

abbrev pub KeepsClient : Step → Type 0
KeepsClient (set_client client) = ⊥
KeepsClient (learn other b) = ⊥
KeepsClient (join_seat other b) = ⊥
KeepsClient other = Unit {0}

-- each of them does
abbrev pub KeepClient : List Step → Type 0
KeepClient [] = Unit {0}
KeepClient (step ∷ steps) = KeepsClient step × KeepClient steps
