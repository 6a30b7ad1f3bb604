-- When the test of a step may say yes.
use Rattle.std.specs.Prelude.{◌≡◌, ℕ, Option, Some}
use Rattle.wp_core.specs.World.{World, Actor}
use Rattle.wp_core.specs.Steps.{Step}
use Rattle.wp_core.specs.Needs.{Needs}

-- it is a step, and what that needs is so
pub record IsOffered (w : World) (by : ℕ) (a : Actor) (o : Option Step) : Type 0 where
  pub step : Step
  pub is : o ≡ Some step
  pub needs : Needs w by a step
