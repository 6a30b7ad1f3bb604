use Rattle.std.proofs.Common.{refl, None}
use Rattle.wp_model.specs.declared.holder.Holder.TheVariants.{Txn}
use Rattle.wp_open_txns.proofs.Made.{may_find, holder_found}
use Rattle.wp_open_txns.proofs.steps.find_name.Goals as goal

pub make_about-requires-clause-may : goal.make_about-requires-clause-may
make_about-requires-clause-may g c = may_find _ _ c.args.tables.now None (Txn c.args.name.now) c.requires.held (c.args.name.now, refl, c.requires.live)

pub returns : goal.returns
returns g c = holder_found _ _ _ _ c.args.tables.now None (Txn c.args.name.now) c.requires.held c.make_about.ensures.same c.make_about.ensures.moved
