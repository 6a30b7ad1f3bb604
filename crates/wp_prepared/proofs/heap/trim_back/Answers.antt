use Rattle.std.proofs.Common.{◌-◌, arith}
use Rattle.std.specs.VecDeque.{deque_len}
use Rattle.wp_prepared.proofs.Queues.{stands_at_back}
use Rattle.wp_prepared.proofs.heap.trim_back.Goals as goal

pub returns-then-not-last : goal.returns-then-not-last
returns-then-not-last c =
    let so_far = c.loop-last.invariant in
    let queue = c.loop-last.queue in
    let found = c.in-Some.ensures in
    record {
      gone = so_far.0;
      erased = so_far.1;
      is = so_far.2;
      last = stands_at_back queue.items (deque_len queue - 1) c.in-Some.last.now (omega (arith, queue.ok.0, found.variant.0 cc)) found.lookup c.if-not-last.true;
    }
