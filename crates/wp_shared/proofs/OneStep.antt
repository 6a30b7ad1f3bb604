-- One step by a seat's actor, as the calls of the crates above make it.
use Rattle.std.proofs.Common.{◌≡◌, [], ◌∷◌, length, ap, ◌∙◌}
use Rattle.wp_core.specs.World.{Actor, World}
use Rattle.wp_core.specs.Steps.{Step}
use Rattle.wp_core.specs.Effects.{done}
use Rattle.wp_rule.specs.Words.{Place, IsAt}
use Rattle.wp_rule.specs.Moves.{Moved, first_of, world_after_step}
use Rattle.wp_rule.proofs.Forgets.{EndsNothing, forgets_nothing}
use Rattle.wp_shared.specs.Seats.{SeatState}

-- the actor that the step leaves, where it has these notes left
abbrev pub stepped : World → Actor → Step → Actor
stepped w a step = first_of (done (record w { actors = a ∷ [] }) 0 a step).actors a

-- The step was made in a world in which this was so. It ends none of the actor's notes.
pub record Made (p : Place) (step : Step) (so : World → Type 0) (a b : Actor) : Type 0 where
  pub world : World
  pub before : IsAt p a world
  pub so_is : so world
  pub actor : b ≡ stepped world a step
  pub after : IsAt p b (world_after_step world p.by a step)

pub made : (p : Place) (step : Step) (so : World → Type 0) (a b : Actor) → EndsNothing step → Moved p (λ w. step ∷ []) so a b → Made p step so a b
made p step so a b ends m =
    let w = m.world in record {
      world = w;
      before = m.before;
      so_is = m.so_is;
      actor = m.actor ∙ ap (λ (x : Actor). first_of (done (record w { actors = a ∷ [] }) 0 x step).actors a) (forgets_nothing w.writes.history (length w.cache) step a ends);
      after = m.after;
    }

-- the seat with its new actor, in its place
pub becomes : (s t : SeatState) (b : Actor) → (t.table ≡ s.table) × (t.by ≡ s.by) × (t.turns ≡ s.turns) → t.knows ≡ b → t ≡ record s { knows = b }
becomes s t b same is = λ i. record { table = same.0 i; by = same.1 i; knows = is i; turns = same.2 i }
