use Rattle.wp_core.proofs.CrashImages.{segment_by_crash}
use Rattle.wp_core.proofs.EachStep.{reached_is_sound}
use Rattle.wp_core.proofs.laws.crashes_leave_the_segment_of_an_edit.Goals as goal

pub returns : goal.returns
returns c w reached = segment_by_crash w (reached_is_sound w reached)
