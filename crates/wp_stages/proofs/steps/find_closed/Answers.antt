use Rattle.wp_stages.proofs.Renews.{may_find_closed, closed_found}
use Rattle.wp_stages.proofs.steps.find_closed.Goals as goal

pub make_about-requires-clause-may : goal.make_about-requires-clause-may
make_about-requires-clause-may g c = may_find_closed _ _ c.args.log.now.state c.requires.held.0 c.requires.held.1

pub returns : goal.returns
returns g c = closed_found _ _ c.args.seat.now c.make_about.new.seat c.make_about.ensures.same c.args.log.now.state c.requires.held.0 c.make_about.ensures.moved
