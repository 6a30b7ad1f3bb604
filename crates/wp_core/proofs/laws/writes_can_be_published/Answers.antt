use Rattle.wp_core.proofs.OneWrite.{publishes}
use Rattle.wp_core.proofs.laws.writes_can_be_published.Goals as goal

pub returns : goal.returns
returns c batch is = publishes batch is
