use Rattle.wp_rule.proofs.MayBeMade.{takes_name}
use Rattle.wp_rule.proofs.laws.names_may_be_taken.Goals as goal

pub returns : goal.returns
returns c p a name held = takes_name p a name held
