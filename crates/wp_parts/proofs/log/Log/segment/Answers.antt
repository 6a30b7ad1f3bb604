use Rattle.wp_parts.proofs.CarriedLemmas.{carried_ascend}
use Rattle.wp_parts.proofs.log.Log.segment.Goals as goal

pub segment-requires-clause-ascend : goal.segment-requires-clause-ascend
segment-requires-clause-ascend g c = rw c.in_ok-end_of.ensures.base (carried_ascend c.self.inside.history.entries (rw (← c.self.view_is) at c.requires))
