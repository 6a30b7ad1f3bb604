use Rattle.std.proofs.Common.{sym, subst}
use Rattle.wp_core.specs.Sound.Views.{OwnsKey}
use Rattle.wp_open_txns.specs.Txn.{OpenState}
use Rattle.wp_open_txns.proofs.validating.validate.Goals as goal

pub changed_since-requires-clause-has : goal.changed_since-requires-clause-has
changed_since-requires-clause-has g c = subst (λ (x : OpenState). OwnsKey c.args.seat.now.knows.participant x.name c.args.key.now) (sym c.txn.view_is) c.requires.has
