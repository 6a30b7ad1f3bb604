use Rattle.wp_core.proofs.CrashImages.{edit_by_crash}
use Rattle.wp_core.proofs.EachStep.{reached_is_sound}
use Rattle.wp_core.proofs.laws.crashes_leave_an_edit_that_covers.Goals as goal

pub returns : goal.returns
returns c w reached = edit_by_crash w (reached_is_sound w reached)
