use Rattle.wp_rule.proofs.MayBeMade.{claims_name}
use Rattle.wp_rule.proofs.laws.names_may_be_claimed.Goals as goal

pub returns : goal.returns
returns c p a name held = claims_name p a name held
