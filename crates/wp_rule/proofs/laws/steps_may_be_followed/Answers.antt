use Rattle.wp_rule.proofs.Quiet.{followed}
use Rattle.wp_rule.proofs.laws.steps_may_be_followed.Goals as goal

pub returns : goal.returns
returns c p a first others one more = followed p a first others one more
