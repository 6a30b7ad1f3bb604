-- There is an opening: on the empty history.
use Rattle.std.proofs.Common.{◌≡◌, ℕ, zero, suc, ◌<◌, [], ◌∷◌, Some, None, refl, slice_index_or, arith}
use Rattle.wp_model.specs.Legal.{IsLegal}
use Rattle.wp_core.specs.Runs.{IsOpening}
use Rattle.wp_core.specs.World.{World}
use Rattle.wp_core.proofs.Openings.{opened_world, world_opened}

abbrev pub empty_world : World
empty_world = opened_world [] (0 ∷ []) []

legal : IsLegal []
legal = record { few = omega arith; each = λ n e at. let q : None ≡ Some e = at in absurd (cc) }

only_zero : (i d : ℕ) → i < 1 → slice_index_or (0 ∷ []) i d ≡ 0
only_zero zero d lt = refl
only_zero (suc i) d lt = absurd (omega arith)

pub empty_is_opening : IsOpening empty_world
empty_is_opening = world_opened [] (0 ∷ []) [] legal refl (omega arith) (λ i d lt. only_zero i d lt)
