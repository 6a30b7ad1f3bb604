use Rattle.wp_replies.proofs.SessionLemmas.{session_numbers}
use Rattle.wp_replies.proofs.laws.fresh_numbers_never_fall.Goals as goal

pub returns : goal.returns
returns c = session_numbers
