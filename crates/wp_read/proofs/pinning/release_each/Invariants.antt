use Rattle.std.proofs.Common.{◌≡◌, ◌≤◌, length, take}
use Rattle.wp_model.specs.Snapshots.{Snapshots}
use Rattle.wp_read.specs.Registers.{AreCounted, with_each}
use Rattle.wp_read.proofs.pinning.release_each.Given as goal

abbrev pub invariant-loop-left : goal.invariant-loop-left
invariant-loop-left l = record {
  within : l.left ≤ length l.numbers;
  released : (m : Snapshots) → AreCounted m → l.fn.snaps ≡ with_each m l.numbers → l.snaps ≡ with_each m (take l.left l.numbers);
}

abbrev pub decreases-loop-left : goal.decreases-loop-left
decreases-loop-left l = l.left
