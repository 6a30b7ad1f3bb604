use Rattle.wp_history.proofs.Judged.{kept_same}
use Rattle.wp_history.proofs.LastChanges.{changes_same}
use Rattle.wp_history.proofs.history.History.reserve.Goals as goal

pub invariant_of-self : goal.invariant_of-self
invariant_of-self c = (kept_same _ _ _ c.reserve.ensures.base c.self.invariant.0 c.reserve.ensures.entries, changes_same _ _ _ c.reserve.ensures.base c.reserve.ensures.entries c.self.invariant.1)
