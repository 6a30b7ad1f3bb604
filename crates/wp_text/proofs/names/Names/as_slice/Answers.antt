use Rattle.wp_text.proofs.NamesLemmas.{all_differ}
use Rattle.wp_text.proofs.names.Names.as_slice.Goals as goal

pub returns-clause-distinct : goal.returns-clause-distinct
returns-clause-distinct c = all_differ c.args.self.now (rw (← c.self.view_is) c.self.invariant)
