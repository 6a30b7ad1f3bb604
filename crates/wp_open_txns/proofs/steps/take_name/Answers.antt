use Rattle.wp_rule.proofs.MayBeMade.{takes_name}
use Rattle.wp_open_txns.proofs.Made.{took_it}
use Rattle.wp_open_txns.proofs.steps.take_name.Goals as goal

pub make_about-requires-clause-may : goal.make_about-requires-clause-may
make_about-requires-clause-may g c = let f = c.requires.left in takes_name _ _ c.args.name.now (record { state = f.0; held = f.1; so_is = f.2 })

pub returns : goal.returns
returns g c t held = let f = c.requires.left in took_it _ _ _ _ c.make_about.ensures.same t c.args.name.now held f.0 f.1 f.2 c.make_about.ensures.moved
