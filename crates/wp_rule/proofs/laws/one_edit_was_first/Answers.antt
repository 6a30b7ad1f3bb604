use Rattle.wp_rule.proofs.Knows.{one_was_first}
use Rattle.wp_rule.proofs.laws.one_edit_was_first.Goals as goal

pub returns : goal.returns
returns g c content first one other is was = one_was_first content first one other is was
