use Rattle.std.proofs.Common.{◌∙◌}
use Rattle.wp_memtable.proofs.KeyVersions.{kept_newer, newest-newer}
use Rattle.wp_memtable.proofs.several.Several.remove_up_to.Goals as goal

pub invariant_of-self : goal.invariant_of-self
invariant_of-self c = newest-newer c.args.n _ _ c.self.invariant (c.truncate.ensures.items ∙ rw c.newer_than-newer.ensures (kept_newer c.args.n _ c.self.invariant))

pub returns-clause-versions : goal.returns-clause-versions
returns-clause-versions c = rw (← c.self.view_is) (c.truncate.ensures.items ∙ rw c.newer_than-newer.ensures (kept_newer c.args.n _ c.self.invariant))

pub returns-clause-newest_first : goal.returns-clause-newest_first
returns-clause-newest_first c = invariant_of-self c
