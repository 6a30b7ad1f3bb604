use Rattle.std.proofs.Common.{rules}
use Rattle.wp_core.specs.Conditions.{HasTransaction}
use Rattle.wp_machine_permits.specs.Permits.{IsLocked}
use Rattle.wp_machine_permits.proofs.Pending.{each_changed}
use Rattle.wp_machine_permits.proofs.permitted.publishing.is_own.Goals as goal

pub returns-in-Some : goal.returns-in-Some
returns-in-Some c locked =
    let there : HasTransaction c.args.actor.now c.args.name.now c.in-Some.transaction.now = search rules in
    record { transaction = c.in-Some.transaction.now; there = there; keys = each_changed (IsLocked c.args.world.now c.in-Some.transaction.now c.args.name.now) c.args.batch.now (rw c.changes.ensures.value at c.are_locked.ensures locked) }
