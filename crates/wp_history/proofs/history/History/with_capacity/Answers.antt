use Rattle.wp_history.proofs.Judged.{kept_none}
use Rattle.wp_history.proofs.history.History.with_capacity.Goals as goal

pub invariant_of-result : goal.invariant_of-result
invariant_of-result c = (kept_none _ _ c.in_ok-outline.ensures.base c.in_ok-outline.ensures.entries c.new-store.ensures.empty c.new-store.ensures.ordered, tt)
