use Rattle.wp_core.proofs.Empty.{empty_world, empty_is_opening}
use Rattle.wp_core.proofs.laws.there_is_an_opening.Goals as goal

pub returns : goal.returns
returns c = (empty_world, empty_is_opening)
