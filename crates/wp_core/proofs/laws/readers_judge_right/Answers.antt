use Rattle.wp_core.proofs.EachStep.{reached_is_sound}
use Rattle.wp_core.proofs.Later.{judged_later}
use Rattle.wp_core.proofs.laws.readers_judge_right.Goals as goal

pub returns : goal.returns
returns c w reached j a r visible at reads judged later run = judged_later w later j a r visible (reached_is_sound w reached) at reads judged run
