use Rattle.wp_machine_permits.proofs.needs.transactions.is_undecided_in.Goals as goal

pub returns : goal.returns
returns c = λ e. (c.owns.ensures.0 c.if-not-owns.false, c.is_named.ensures.0 c.if-not-is_named.false, c.is_client_of.ensures c.if-not-is_client_of.false, c.holds_batch.ensures.0 e)
