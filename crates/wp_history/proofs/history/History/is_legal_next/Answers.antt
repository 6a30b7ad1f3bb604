use Rattle.wp_history.proofs.Judged.{legal_by_both, orderly_behind_all}
use Rattle.wp_history.proofs.history.History.is_legal_next.Goals as goal

pub restores_prior-requires-clause-orderly : goal.restores_prior-requires-clause-orderly
restores_prior-requires-clause-orderly c = orderly_behind_all _ _ _ c.published.ensures.value (c.is_orderly_next.ensures.0 c.if-is_orderly_next.true)

pub returns-then-is_orderly_next : goal.returns-then-is_orderly_next
returns-then-is_orderly_next c = rw (← c.self.view_is) (legal_by_both _ _ _ _ c.published.ensures.value (c.is_orderly_next.ensures.0 c.if-is_orderly_next.true) c.restores_prior.ensures)
