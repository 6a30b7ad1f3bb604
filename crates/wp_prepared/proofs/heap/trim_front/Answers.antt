use Rattle.wp_prepared.proofs.Queues.{erased_at_front}
use Rattle.wp_prepared.proofs.heap.trim_front.Goals as goal

pub loop-first-preserved : goal.loop-first-preserved
loop-first-preserved c =
    let so_far = c.loop-first.invariant in
    let item = c.in-Some.ensures.item in
    rw c.pop_front.ensures.rest (erased_at_front _ so_far.0 c.loop-first.queue.items c.in-Some.first.now so_far.1 so_far.2 item.3.0 item.1 c.if-not-first.false)
