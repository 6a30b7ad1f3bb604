use Rattle.wp_machine_permits.proofs.permitted.permits.Goals as goal

pub returns : goal.returns
returns c passed =
    let o = c.in_ok-yes.ensures passed in
    record { actor = c.actor_at-actor.result.now; there = c.actor_at-actor.ensures; step = o.step; is = o.is; needs = o.needs }
