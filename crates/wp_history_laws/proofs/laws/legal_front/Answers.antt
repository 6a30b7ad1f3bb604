use Rattle.wp_history_laws.proofs.Growth.{legal_before}
use Rattle.wp_history_laws.proofs.laws.legal_front.Goals as goal

pub returns : goal.returns
returns c = legal_before
