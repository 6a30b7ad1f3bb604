use Rattle.wp_machine_permits.proofs.Runs.{keeps}
use Rattle.wp_machine_permits.proofs.possible.pairs_can_be_kept.Goals as goal

pub returns : goal.returns
returns c = keeps
