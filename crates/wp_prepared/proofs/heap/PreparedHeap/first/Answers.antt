use Rattle.wp_prepared.proofs.Queues.{least_at_front, none_in_empty}
use Rattle.wp_prepared.proofs.heap.PreparedHeap.first.Goals as goal

pub returns-in_err-first : goal.returns-in_err-first
returns-in_err-first c = rw (c.from_residual.ensures, ← c.self.view_is) (none_in_empty c.self.inside.queue.items c.in_err-first.ensures.item.3)

pub returns : goal.returns
returns c =
    let item = c.in_ok-first.ensures.item in
    rw (← c.self.view_is) (least_at_front c.self.inside.queue.items c.in_ok-first.first.now c.self.invariant.rising c.self.invariant.first item.3.0 item.1)
