use Rattle.wp_history_laws.proofs.Listed.{zero_covered}
use Rattle.wp_history_laws.proofs.laws.zero_is_covered.Goals as goal

pub returns : goal.returns
returns c = zero_covered
