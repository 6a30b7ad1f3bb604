use Rattle.wp_rule.proofs.Knows.{at_sound}
use Rattle.wp_rule.proofs.laws.worlds_are_sound.Goals as goal

pub returns : goal.returns
returns c p a w k = at_sound p a w k
