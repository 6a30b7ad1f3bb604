use Rattle.wp_machine_permits.proofs.Runs.{flushes}
use Rattle.wp_machine_permits.proofs.possible.memory_can_be_flushed.Goals as goal

pub returns : goal.returns
returns c = flushes
