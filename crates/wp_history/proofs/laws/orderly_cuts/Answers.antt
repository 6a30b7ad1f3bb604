use Rattle.wp_cuts.proofs.FullLegal.{orderly_before, orderly_at}
use Rattle.wp_history.proofs.Apart.{none_collide}
use Rattle.wp_history.proofs.laws.orderly_cuts.Goals as goal

pub returns-clause-apart : goal.returns-clause-apart
returns-clause-apart c = λ cut orderly. none_collide cut orderly.numbered orderly.apart

pub returns-clause-front : goal.returns-clause-front
returns-clause-front c = orderly_before

pub returns-clause-each : goal.returns-clause-each
returns-clause-each c = orderly_at
