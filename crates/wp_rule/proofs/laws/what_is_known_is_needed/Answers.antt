use Rattle.wp_rule.proofs.Needed.{needed}
use Rattle.wp_rule.proofs.laws.what_is_known_is_needed.Goals as goal

pub returns : goal.returns
returns c p a step known w k = needed p a w k step known
