use Rattle.wp_rule.proofs.MayBeMade.{words_noted, delayed_noted, old_noted}
use Rattle.wp_rule.proofs.laws.words_may_be_noted.Goals as goal

pub returns-clause-words : goal.returns-clause-words
returns-clause-words c p a live n = words_noted p a live n

pub returns-clause-delayed_flag : goal.returns-clause-delayed_flag
returns-clause-delayed_flag c p a live n = delayed_noted p a live n

pub returns-clause-old_flag : goal.returns-clause-old_flag
returns-clause-old_flag c p a live n = old_noted p a live n
