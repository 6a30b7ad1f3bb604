use Rattle.wp_wal.proofs.AppendLemmas.{stored_acknowledged}
use Rattle.wp_wal.proofs.laws.stored_cut_is_acknowledged.Goals as goal

pub returns : goal.returns
returns c = stored_acknowledged
