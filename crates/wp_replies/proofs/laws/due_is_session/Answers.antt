use Rattle.wp_replies.specs.Client.{new_client}
use Rattle.wp_replies.proofs.DueLemmas.{due_session}
use Rattle.wp_replies.proofs.laws.due_is_session.Goals as goal

pub returns : goal.returns
returns c = λ evidence from progress commands answers based low due. due_session evidence from progress new_client commands answers based low tt tt tt tt due
