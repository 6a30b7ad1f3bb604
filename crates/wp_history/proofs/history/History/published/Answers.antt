use Rattle.wp_history.proofs.history.History.published.Goals as goal

pub returns-clause-legal : goal.returns-clause-legal
returns-clause-legal c = rw (← c.self.view_is) c.self.invariant.0.legal
