use Rattle.wp_history.proofs.outline.Outline.restores_prior.Goals as goal

pub is_prior-requires-clause-undecided : goal.is_prior-requires-clause-undecided
is_prior-requires-clause-undecided c = (rw c.in-Undo.is at c.requires.orderly).names_undecided

pub returns-in-Undo : goal.returns-in-Undo
returns-in-Undo c = rw c.in-Undo.is c.is_prior.ensures
