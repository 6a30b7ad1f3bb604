use Rattle.std.proofs.Common.{◌∙◌}
use Rattle.wp_machine_permits.proofs.Searches.{listed_key}
use Rattle.wp_machine_permits.proofs.needs.transactions.has_locked.Goals as goal

pub returns : goal.returns
returns c = rw (← c.transaction.view_is) ((rw c.deref.ensures.value at c.contains.ensures.value) ∙ listed_key c.transaction.inside.locked.items c.args.key.now)
