use Rattle.wp_locks.proofs.Tables.{freed_one}
use Rattle.wp_locks.proofs.locks.free_keys.Goals as goal

pub loop-change-preserved : goal.loop-change-preserved
loop-change-preserved c =
    let updated = rw c.key.ensures at c.remove.ensures.updates in
    freed_one c.loop-change.keys.entries c.remove.new.self.entries _ c.args.changes.now c.loop-change.change-index c.change-item.result c.loop-change-test.true c.change-item.is c.loop-change.invariant updated.0
