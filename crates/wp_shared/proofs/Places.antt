-- What the words tell of a seat, as clauses see the store and the seat.
use Rattle.std.proofs.Common.{◌≡◌, ℕ, List, [], sym, ap, subst, ◌∙◌}
use Rattle.wp_core.specs.World.{Actor, World}
use Rattle.wp_core.specs.Steps.{Step}
use Rattle.wp_rule.specs.Words.{Place, IsAt, SawAll}
use Rattle.wp_rule.specs.Moves.{MayStep, Moved}
use Rattle.wp_shared.specs.Seats.{SharedState, SeatState, Stands, AllAway, place_at}
use Rattle.wp_parts.specs.declared.turn_value.TurnValue.{TurnValue}

-- the seat moved, and so it did by its view
pub moved_from : (p : Place) (steps : World → List Step) (so : World → Type 0) (s t : SeatState) (b : Actor) → s ≡ t → Moved p steps so s.knows b → Moved p steps so t.knows b
moved_from p steps so s t b seat m = subst (λ (x : SeatState). Moved p steps so x.knows b) seat m

-- the same at the store's place
pub moved_there : {D : Type 0} (y z : SharedState D) (steps : World → List Step) (so : World → Type 0) (s t : SeatState) (b : Actor) → y ≡ z → s ≡ t
    → Moved (place_at y s.by) steps so s.knows b → Moved (place_at z t.by) steps so t.knows b
moved_there {D} y z steps so s t b store seat m = subst (λ (x : SharedState D × SeatState). Moved (place_at x.0 x.1.by) steps so x.1.knows b) (λ i. (store i, seat i)) m

pub may_there : {D : Type 0} (y z : SharedState D) (step : Step) (s t : SeatState) → y ≡ z → s ≡ t → MayStep (place_at y s.by) s.knows step → MayStep (place_at z t.by) t.knows step
may_there {D} y z step s t store seat may = subst (λ (x : SharedState D × SeatState). MayStep (place_at x.0 x.1.by) x.1.knows step) (λ i. (store i, seat i)) may

pub saw_all : {D : Type 0} (y z : SharedState D) (by : ℕ) (a : Actor) (published : ℕ) → y ≡ z → SawAll (place_at y by) a published → SawAll (place_at z by) a published
saw_all {D} y z by a published store saw = subst (λ (x : SharedState D). SawAll (place_at x by) a published) store saw

-- a seat that loaded, and made no step, stands in the world that it found
pub found : {D : Type 0} (z : SharedState D) (so : World → Type 0) (s t : SeatState) (a : Actor) → t ≡ s → Moved (place_at z s.by) (λ w. []) so a t.knows → (w : World) × Stands z t w × so w
found {D} z so s t a same m = (m.world, subst (λ (by : ℕ). IsAt (place_at z by) t.knows m.world) (sym (ap (λ (x : SeatState). x.by) same)) m.after, m.so_is)

-- a seat that holds the turns that it held, and is the same client's, is one
pub still_sits : {D : Type 0} (cs ds : List (ℕ × TurnValue D)) (client : List ℕ) (a b : Actor) → ds ≡ cs → b.participant.client ≡ a.participant.client → AllAway cs × (client ≡ a.participant.client)
    → AllAway ds × (client ≡ b.participant.client)
still_sits cs ds client a b same keeps sat = (subst AllAway (sym same) sat.0, sat.1 ∙ sym keeps)
