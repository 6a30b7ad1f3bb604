use Rattle.wp_rule.proofs.Knows.{held_is}
use Rattle.wp_rule.proofs.laws.held_tables_are_the_worlds.Goals as goal

pub returns : goal.returns
returns s p a w c k there = held_is p a w c k there
