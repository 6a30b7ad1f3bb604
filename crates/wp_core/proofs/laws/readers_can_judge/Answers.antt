use Rattle.wp_core.proofs.OneWrite.{judges}
use Rattle.wp_core.proofs.laws.readers_can_judge.Goals as goal

pub returns : goal.returns
returns c = judges
