use Rattle.wp_machine_permits.specs.Permits.{IsHeldKey}
use Rattle.wp_machine_permits.proofs.Pending.{each_changed}
use Rattle.wp_machine_permits.proofs.permitted.publishing.has_keys.Goals as goal

pub returns : goal.returns
returns c held key changed = each_changed (IsHeldKey c.args.history.now.entries c.args.world.now c.args.actor.now) c.args.batch.now (rw c.changes.ensures.value at c.are_held_for.ensures held) key changed
