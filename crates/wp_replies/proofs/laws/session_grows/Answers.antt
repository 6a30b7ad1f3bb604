use Rattle.wp_replies.proofs.Conditions.{session_more}
use Rattle.wp_replies.proofs.laws.session_grows.Goals as goal

pub returns : goal.returns
returns c = λ evidence more later progress client commands answers within grows session. session_more evidence more later within grows progress client commands answers session
