use Rattle.wp_cuts.proofs.Growing.{cut_grows, cut_again, cut_at_end, cut_to}
use Rattle.wp_cuts.proofs.laws.cuts_grow.Goals as goal

pub returns-clause-more : goal.returns-clause-more
returns-clause-more c = cut_grows

pub returns-clause-again : goal.returns-clause-again
returns-clause-again c = cut_again

pub returns-clause-end : goal.returns-clause-end
returns-clause-end c = cut_at_end

pub returns-clause-front : goal.returns-clause-front
returns-clause-front c = cut_to
