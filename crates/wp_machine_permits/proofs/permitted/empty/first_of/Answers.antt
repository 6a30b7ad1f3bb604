use Rattle.std.proofs.Common.{◌∙◌}
use Rattle.wp_machine_permits.proofs.Searches.{first_or_none}
use Rattle.wp_machine_permits.proofs.permitted.empty.first_of.Goals as goal

pub returns : goal.returns
returns c = rw (← c.snapshot.view_is) (first_or_none c.snapshot.inside.old_commits.items c.copied.result (c.copied.ensures ∙ (rw c.deref.ensures.value at c.first.ensures.value)))
