use Rattle.std.proofs.Common.{nat_lt, rules}
use Rattle.std.proofs.lemmas.Fn.{filter_same}
use Rattle.wp_memtable.proofs.KeyVersions.{newest-older}
use Rattle.wp_memtable.proofs.several.Several.remove_from.Goals as goal

pub invariant_of-self : goal.invariant_of-self
invariant_of-self c = newest-older c.args.n _ _ c.self.invariant (filter_same _ (λ e. nat_lt e.0 c.args.n) _ (λ e b f called. search rules) _ _ c.retain.ensures.filtered)

pub returns-clause-versions : goal.returns-clause-versions
returns-clause-versions c = rw (← c.self.view_is) (filter_same _ (λ e. nat_lt e.0 c.args.n) _ (λ e b f called. search rules) _ _ c.retain.ensures.filtered)

pub returns-clause-newest_first : goal.returns-clause-newest_first
returns-clause-newest_first c = invariant_of-self c
