use Rattle.wp_rule.proofs.MayBeMade.{begins_entries}
use Rattle.wp_rule.proofs.laws.entries_begin_nowhere.Goals as goal

pub returns : goal.returns
returns c p a entries known = begins_entries p a entries known
