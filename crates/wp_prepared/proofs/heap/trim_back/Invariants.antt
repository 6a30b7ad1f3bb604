use Rattle.std.proofs.Common.{◌≡◌, ◌++◌, List, length}
use Rattle.wp_prepared.specs.declared.heap.Queued.{Queued}
use Rattle.wp_prepared.specs.Queue.{AreErased}
use Rattle.wp_prepared.proofs.heap.trim_back.Given as goal

-- just erased numbers were taken out so far
abbrev pub invariant-loop-last : goal.invariant-loop-last
invariant-loop-last l = (gone : List Queued) × AreErased gone × (l.fn.queue.items ≡ l.queue.items ++ gone)

abbrev pub decreases-loop-last : goal.decreases-loop-last
decreases-loop-last l = length l.queue.items
