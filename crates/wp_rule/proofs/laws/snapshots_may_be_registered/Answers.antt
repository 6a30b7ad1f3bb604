use Rattle.wp_rule.proofs.MayBeMade.{registers_at}
use Rattle.wp_rule.proofs.laws.snapshots_may_be_registered.Goals as goal

pub returns : goal.returns
returns c p a smallest held known = registers_at p a smallest held known
