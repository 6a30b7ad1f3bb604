use Rattle.std.proofs.Common.{◌≡◌, ℕ, take, map}
use Rattle.wp_model.specs.Snapshots.{LiveSnapshot}
use Rattle.wp_machine_permits.proofs.needs.live.numbers_of.Given as goal

abbrev pub invariant-loop-pair : goal.invariant-loop-pair
invariant-loop-pair l = l.numbers.items ≡ map (λ (pair : ℕ × LiveSnapshot). pair.0) (take l.pair-index l.pairs)
