-- Runs of one actor.
use Rattle.std.specs.Prelude.{◌≡◌, List, [], ◌∷◌}
use Rattle.wp_core.specs.World.{World}
use Rattle.wp_core.specs.Steps.{Step}
use Rattle.wp_core.specs.Runs.{IsStep, IsOpening}

-- the first actor makes these steps in this order, each with all that it needs, and the last one leaves that world
abbrev pub Leads : World → List Step → World → Type 0
Leads w [] last = last ≡ w
Leads w (step ∷ steps) last = (next : World) × IsStep w 0 step next × Leads next steps last

-- from an opening on no entries these steps lead to a world with P
abbrev pub CanLead : List Step → (World → Type 0) → Type 0
CanLead steps P = (first : World) × IsOpening first × (first.opened ≡ []) × (last : World) × Leads first steps last × P last
