use Rattle.std.proofs.Common.{ap}
use Rattle.wp_machine_permits.proofs.needs.finding.accounts.Goals as goal

pub returns-in-Own : goal.returns-in-Own
returns-in-Own c =
    let self = rw (ap (λ a. a.participant) c.actor.view_is) at c.is_self.ensures in
    rw c.in-Own.is self

pub returns-in-PrepareAt : goal.returns-in-PrepareAt
returns-in-PrepareAt c = rw c.in-PrepareAt.is (c.is_left.ensures c.args.by c.args.actor.now c.args.key.now)
