use Rattle.std.proofs.Common.{◌≤◌}
use Rattle.wp_machine_permits.proofs.Searches.{each_in_set}
use Rattle.wp_machine_permits.proofs.permitted.empty.delayed_is_from.Goals as goal

pub returns : goal.returns
returns c from p found = each_in_set (λ q. c.args.least ≤ q) c.prepared.inside.delayed.items (rw c.deref.ensures.value at c.are_from.ensures from) p (rw (← c.prepared.view_is) at found)
