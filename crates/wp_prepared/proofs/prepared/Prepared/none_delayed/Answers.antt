use Rattle.std.proofs.Common.{IsTrue, ◌↔◌, subst}
use Rattle.wp_model.specs.PreparedSets.{NoneDelayed}
use Rattle.wp_prepared.proofs.prepared.Prepared.none_delayed.Goals as goal

pub returns : goal.returns
returns c = subst (λ t. IsTrue c.is_empty.result ↔ NoneDelayed t) c.self.view_is c.is_empty.ensures
