use Rattle.wp_replies.proofs.SessionLemmas.{session_reads}
use Rattle.wp_replies.proofs.laws.reads_are_values.Goals as goal

pub returns : goal.returns
returns c = session_reads
