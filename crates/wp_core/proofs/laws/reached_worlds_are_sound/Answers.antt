use Rattle.wp_core.proofs.EachStep.{reached_is_sound}
use Rattle.wp_core.proofs.laws.reached_worlds_are_sound.Goals as goal

pub returns : goal.returns
returns c w reached = reached_is_sound w reached
