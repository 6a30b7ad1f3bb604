use Rattle.wp_rule.proofs.MayBeMade.{known_made}
use Rattle.wp_rule.proofs.laws.what_is_known_may_be_made.Goals as goal

pub returns : goal.returns
returns c p a step quiet known = known_made p a step quiet known
