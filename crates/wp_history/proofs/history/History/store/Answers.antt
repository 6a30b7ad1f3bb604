use Rattle.wp_history.proofs.history.History.store.Goals as goal

pub returns : goal.returns
returns c = rw (← c.self.view_is) c.self.invariant.0.stored
