use Rattle.std.proofs.Common.{refl}
use Rattle.wp_make.specs.Generator.{next_state, drawn}
use Rattle.wp_make.proofs.laws.first_turns.Goals as goal

pub returns-clause-seed_0 : goal.returns-clause-seed_0
unfolding next_state drawn
returns-clause-seed_0 c = refl

pub returns-clause-seed_1 : goal.returns-clause-seed_1
unfolding next_state drawn
returns-clause-seed_1 c = refl
