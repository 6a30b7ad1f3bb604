use Rattle.std.proofs.Common.{◌≡◌, ◌++◌, length}
use Rattle.wp_merge.specs.Merge.{merge_of}
use Rattle.wp_merge.proofs.two.merge_two.Given as goal

abbrev pub invariant-loop-version : goal.invariant-loop-version
invariant-loop-version l = l.merged.items ++ merge_of l.first.items l.second.items ≡ merge_of l.fn.first.items l.fn.second.items

abbrev pub decreases-loop-version : goal.decreases-loop-version
decreases-loop-version l = length (merge_of l.first.items l.second.items)
