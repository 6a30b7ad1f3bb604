use Rattle.wp_machine_permits.proofs.Runs.{rolls_back}
use Rattle.wp_machine_permits.proofs.possible.transactions_can_be_rolled_back.Goals as goal

pub returns : goal.returns
returns c = rolls_back
