use Rattle.wp_history.proofs.Judged.{kept_none}
use Rattle.wp_history.proofs.history.History.new.Goals as goal

pub invariant_of-result : goal.invariant_of-result
invariant_of-result c = (kept_none _ _ c.new-outline.ensures.base c.new-outline.ensures.entries c.new-store.ensures.empty c.new-store.ensures.ordered, tt)
