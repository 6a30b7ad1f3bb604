use Rattle.wp_open.proofs.Base.{has_cut}
use Rattle.wp_open.proofs.covering.shows_cut.Goals as goal

pub returns-clause-cut : goal.returns-clause-cut
returns-clause-cut c = has_cut c.args.history.now c.later.ensures.within c.later.ensures.starts
