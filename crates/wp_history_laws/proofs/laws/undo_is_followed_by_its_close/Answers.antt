use Rattle.wp_history_laws.proofs.Undecided.{close_follows}
use Rattle.wp_history_laws.proofs.laws.undo_is_followed_by_its_close.Goals as goal

pub returns : goal.returns
returns c = close_follows
