use Rattle.wp_replies.proofs.Below.{condition_other}
use Rattle.wp_replies.proofs.BelowAll.{session_other}
use Rattle.wp_replies.specs.Client.{new_client}
use Rattle.wp_replies.proofs.laws.nothing_below_the_base_tells.Goals as goal

pub returns-clause-conditions : goal.returns-clause-conditions
returns-clause-conditions c = λ evidence other progress client p command answer like from condition. condition_other evidence other like progress client p command answer from condition

pub returns-clause-sessions : goal.returns-clause-sessions
returns-clause-sessions c = λ evidence other progress commands answers like low keys session.
    session_other evidence other like progress new_client commands answers (record { last = low; txn = tt; snapshots = tt; keys = keys }) session
