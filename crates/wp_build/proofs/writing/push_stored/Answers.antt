use Rattle.std.proofs.Common.{arith}
use Rattle.std.proofs.lemmas.Grind.{common_steps}
use Rattle.wp_build.proofs.writing.push_stored.Goals as goal

pub returns-in_ok-push_u8-in-Some-clause-pushed : goal.returns-in_ok-push_u8-in-Some-clause-pushed
returns-in_ok-push_u8-in-Some-clause-pushed c = grind (arith, common_steps)
