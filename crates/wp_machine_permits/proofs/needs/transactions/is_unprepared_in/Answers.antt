use Rattle.wp_machine_permits.proofs.needs.transactions.is_unprepared_in.Goals as goal

pub returns : goal.returns
returns c = (λ e. (c.owns.ensures.0 c.if-not-owns.false, c.is_unnamed.ensures.0 c.if-not-is_unnamed.false, c.none_held.ensures.0 e), λ h. c.none_held.ensures.1 h.2)
