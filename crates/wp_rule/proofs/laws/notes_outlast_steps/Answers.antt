use Rattle.wp_rule.proofs.Outlasting.{outlasts}
use Rattle.wp_rule.proofs.laws.notes_outlast_steps.Goals as goal

pub returns : goal.returns
returns c fact steps w by a there o = outlasts fact steps w by a there o
