use Rattle.std.proofs.Common.{sym}
use Rattle.wp_machine_permits.proofs.Searches.{kept_or_none}
use Rattle.wp_machine_permits.proofs.permitted.empty.has_no_old_commits.Goals as goal

pub returns : goal.returns
returns c = kept_or_none c.args.snapshots.now c.snapshots.inside.live.items (sym c.snapshots.view_is) c.kept_under.result c.is_none.result c.is_none.ensures (rw c.deref.ensures.value at c.kept_under.ensures)
