use Rattle.wp_core.proofs.EachStep.{step_keeps}
use Rattle.wp_core.proofs.laws.steps_keep_sound.Goals as goal

pub returns : goal.returns
returns c w by step next goes s = step_keeps w by step next goes s
