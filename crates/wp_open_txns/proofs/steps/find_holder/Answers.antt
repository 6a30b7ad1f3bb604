use Rattle.std.proofs.Common.{Some}
use Rattle.wp_open_txns.proofs.Made.{may_find, holder_found}
use Rattle.wp_open_txns.proofs.steps.find_holder.Goals as goal

pub make_about-requires-clause-may : goal.make_about-requires-clause-may
make_about-requires-clause-may g c = may_find _ _ c.args.tables.now (Some c.args.key.now) c.args.holder.now c.requires.held c.requires.holds

pub returns : goal.returns
returns g c = holder_found _ _ _ _ c.args.tables.now (Some c.args.key.now) c.args.holder.now c.requires.held c.make_about.ensures.same c.make_about.ensures.moved
