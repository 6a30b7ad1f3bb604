use Rattle.wp_locks.proofs.Tables.{freed_key}
use Rattle.wp_locks.proofs.locks.free_each.Goals as goal

pub loop-key-preserved : goal.loop-key-preserved
loop-key-preserved c =
    freed_key c.loop-key.keys.entries c.remove.new.self.entries _ c.args.freed.now c.loop-key.key-index c.key-item.result c.loop-key-test.true c.key-item.is c.loop-key.invariant c.remove.ensures.updates.0
