use Rattle.wp_maint.proofs.Throughout.{names_its_segment}
use Rattle.wp_maint.proofs.laws.a_renewal_leaves_each_edit_its_segment.Goals as goal

pub returns : goal.returns
returns c old new log moved next k running s g open_ whole coupled asked is uncalled b = names_its_segment old new next k running s log moved g open_ whole coupled asked is uncalled b
