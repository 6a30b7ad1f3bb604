use Rattle.wp_rule.proofs.MayBeMade.{finds_holder}
use Rattle.wp_rule.proofs.laws.holders_are_accounted_for.Goals as goal

pub returns : goal.returns
returns c p a key holder held = finds_holder p a key holder held
