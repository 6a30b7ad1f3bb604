use Rattle.wp_core.proofs.EachStep.{reached_is_sound}
use Rattle.wp_core.proofs.OneActor.{tells}
use Rattle.wp_core.proofs.laws.what_one_did_is_all.Goals as goal

pub returns : goal.returns
returns c w reached a alone = tells w a alone (reached_is_sound w reached)
