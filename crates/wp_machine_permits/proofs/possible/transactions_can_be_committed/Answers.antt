use Rattle.wp_machine_permits.proofs.Runs.{commits}
use Rattle.wp_machine_permits.proofs.possible.transactions_can_be_committed.Goals as goal

pub returns : goal.returns
returns c = commits
