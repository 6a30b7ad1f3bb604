use Rattle.wp_rule.proofs.Knows.{noted_is}
use Rattle.wp_rule.proofs.laws.noted_facts_are_so.Goals as goal

pub returns : goal.returns
returns c p a w fact k there = (noted_is p a w fact k there).is_so
