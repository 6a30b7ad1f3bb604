use Rattle.std.proofs.Common.{not, ap}
use Rattle.wp_snaps.proofs.KeptNumbers.{no_keys}
use Rattle.wp_snaps.proofs.snapshot.LiveSnapshot.keeps_any.Goals as goal

pub returns : goal.returns
returns c = rw (← c.self.view_is) (ap not (no_keys c.self.inside.old_commits.keys c.is_empty.result c.is_empty.ensures))
