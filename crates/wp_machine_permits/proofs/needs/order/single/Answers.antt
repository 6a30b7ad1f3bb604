use Rattle.wp_machine_permits.proofs.Stores.{one_in_order}
use Rattle.wp_machine_permits.proofs.needs.order.single.Goals as goal

pub of-requires : goal.of-requires
of-requires c = rw (c.in_ok-push.ensures.items, c.in_ok-list.ensures.items) (one_in_order c.args.version)
