use Rattle.wp_replies.proofs.SessionLemmas.{session_logged}
use Rattle.wp_replies.proofs.laws.acknowledged_are_logged.Goals as goal

pub returns : goal.returns
returns c = session_logged
