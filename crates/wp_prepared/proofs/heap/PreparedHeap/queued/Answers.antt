use Rattle.std.proofs.Common.{arith}
use Rattle.wp_prepared.proofs.Queues.{len-standing}
use Rattle.wp_prepared.proofs.heap.PreparedHeap.queued.Goals as goal

pub returns-clause-all : goal.returns-clause-all
returns-clause-all c = rw (← c.self.view_is) (omega (arith, len-standing c.self.inside.queue.items, c.self.inside.queue.ok.0, c.len.ensures))
