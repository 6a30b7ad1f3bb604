use Rattle.wp_refused.proofs.Opened.{opens_again}
use Rattle.wp_refused.proofs.laws.opened_parts_open_again.Goals as goal

pub returns : goal.returns
returns c = opens_again
