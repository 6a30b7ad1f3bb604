-- A step whose needs were tested is offered.
use Rattle.std.proofs.Common.{◌≡◌, ℕ, Bool, true, Option, Some, Result, IfOk}
use Rattle.std.specs.declared.alloc.AllocError.{AllocError}
use Rattle.std.proofs.lemmas.Result.{IfOk-weaker}
use Rattle.wp_core.specs.World.{World, Actor}
use Rattle.wp_core.specs.Steps.{Step}
use Rattle.wp_core.specs.Needs.{Needs}
use Rattle.wp_machine_permits.specs.Offered.{IsOffered}

pub offered : (r : Result Bool AllocError) (w : World) (by : ℕ) (a : Actor) (o : Option Step) (s : Step) → o ≡ Some s → IfOk r (λ yes. yes ≡ true → Needs w by a s) → IfOk r (λ yes. yes ≡ true → IsOffered w by a o)
offered r w by a o s is tested = IfOk-weaker r (λ yes. yes ≡ true → Needs w by a s) (λ yes. yes ≡ true → IsOffered w by a o) (λ yes needs e. record { step = s; is = is; needs = needs e }) tested
