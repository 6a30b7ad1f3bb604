use Rattle.wp_rule.proofs.Knows.{seen_is}
use Rattle.wp_rule.proofs.laws.what_was_seen_begins_the_history.Goals as goal

pub returns : goal.returns
returns c p a w k = seen_is p a w k
