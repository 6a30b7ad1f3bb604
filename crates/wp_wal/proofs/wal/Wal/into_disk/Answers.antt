use Rattle.wp_wal.proofs.AppendLemmas.{running_cut}
use Rattle.wp_wal.proofs.wal.Wal.into_disk.Goals as goal

pub returns-clause-left : goal.returns-clause-left
returns-clause-left g c = running_cut c.args.self
