use Rattle.std.proofs.Common.{◌≤◌, length}
use Rattle.wp_keep.specs.Chosen.{chosen}
use Rattle.wp_keep.specs.Keep.{by_commits}
use Rattle.wp_keep.proofs.Ends.{HasRemaining}
use Rattle.wp_keep.proofs.remaining.remaining.Given as goal

abbrev pub invariant-loop-version : goal.invariant-loop-version
invariant-loop-version l = record {
  each : length l.versions.items ≤ length l.stay;
  remaining : HasRemaining (by_commits l.commits) (chosen l.fn.versions.items l.stay) l.floor (chosen l.versions.items l.stay) l.retained.items;
}

abbrev pub decreases-loop-version : goal.decreases-loop-version
decreases-loop-version l = length l.versions.items
