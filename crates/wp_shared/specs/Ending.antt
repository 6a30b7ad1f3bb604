-- How a store ends: all its seats are handed in, and what lay behind the turns is left.
use Rattle.std.specs.Prelude.{◌≡◌, List, [], ◌∷◌, ◌++◌, length, map}
use Rattle.atomic_table.specs.Seated.{TableId}
use Rattle.wp_core.specs.Turns.{Turn}
use Rattle.wp_core.specs.World.{Actor}
use Rattle.wp_rule.specs.Shows.{Leaves}
use Rattle.wp_parts.specs.declared.turn_value.TurnValue.{TurnValue}
use Rattle.wp_parts.specs.Parts.{content, tells}
use Rattle.wp_shared.specs.Seats.{SharedState, SeatState, IsFree, participant_of, place_at}

abbrev pub AllFree : TableId → List SeatState → Type 0
AllFree table [] = Unit {0}
AllFree table (s ∷ seats) = IsFree table s × AllFree table seats

-- the first of them is the store's first seat, which took in nobody yet, and the others are all that it made
abbrev pub AreAll : List SeatState → Type 0
AreAll [] = ⊥
AreAll (first ∷ others) = (first.by ≡ 0) × (first.knows.joined ≡ []) × (first.knows.made ≡ length others)

-- the actor, once it took in these
abbrev pub all_joined : Actor → List SeatState → Actor
all_joined a seats = record a { joined = map participant_of seats ++ a.joined }

-- What is left of the store: its world, in which no turn is held and whose only participants are those of the seats, and behind
-- each turn its state. The world is sound with these participants alone.
abbrev pub Remains : {D : Type 0} → SharedState D → List SeatState → (Turn → TurnValue D) → Type 0
Remains z [] parts = ⊥
Remains z (first ∷ others) parts = Leaves content (tells z.first) z.first (place_at z 0) (all_joined first.knows others) parts
