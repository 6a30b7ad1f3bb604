use Rattle.std.proofs.Common.{◌≡◌, ◌++◌, List, length}
use Rattle.wp_prepared.specs.declared.heap.Queued.{Queued}
use Rattle.wp_prepared.specs.Queue.{AreErased}
use Rattle.wp_prepared.proofs.heap.trim_front.Given as goal

-- just erased numbers were taken out so far
abbrev pub invariant-loop-first : goal.invariant-loop-first
invariant-loop-first l = (gone : List Queued) × AreErased gone × (l.fn.queue.items ≡ gone ++ l.queue.items)

abbrev pub decreases-loop-first : goal.decreases-loop-first
decreases-loop-first l = length l.queue.items
