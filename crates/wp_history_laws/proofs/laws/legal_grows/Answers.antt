use Rattle.wp_history_laws.proofs.Growth.{legal_next}
use Rattle.wp_history_laws.proofs.laws.legal_grows.Goals as goal

pub returns : goal.returns
returns c = legal_next
