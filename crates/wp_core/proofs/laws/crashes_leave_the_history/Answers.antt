use Rattle.wp_core.proofs.CrashImages.{left_by_crash}
use Rattle.wp_core.proofs.EachStep.{reached_is_sound}
use Rattle.wp_core.proofs.laws.crashes_leave_the_history.Goals as goal

pub returns : goal.returns
returns c w reached = left_by_crash w (reached_is_sound w reached)
