use Rattle.std.proofs.Common.{◌≡◌, ℕ, false, drop}
use Rattle.wp_model.specs.Snapshots.{is_old_commit}
use Rattle.wp_machine_permits.specs.Each.{Each}
use Rattle.wp_machine_permits.proofs.permitted.empty.kept_under.Given as goal

abbrev pub invariant-loop-pair : goal.invariant-loop-pair
invariant-loop-pair l = Each (λ pair. (p : ℕ) → is_old_commit l.snapshots pair.0 p ≡ false) (drop l.pair-index l.live) → Each (λ pair. (p : ℕ) → is_old_commit l.snapshots pair.0 p ≡ false) l.live
