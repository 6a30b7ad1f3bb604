use Rattle.std.proofs.Common.{refl}
use Rattle.wp_model.specs.declared.entry.Entry.TheVariants.{Prepare}
use Rattle.wp_history_laws.proofs.Undecided.{undecided_next, undecided_at_next}
use Rattle.wp_history_laws.proofs.laws.undecided_grows.Goals as goal

pub returns-clause-each : goal.returns-clause-each
returns-clause-each c = λ history entry legal after. undecided_next history entry legal after.orderly.names_undecided

pub returns-clause-prepared : goal.returns-clause-prepared
returns-clause-prepared c = λ history name batch legal. undecided_at_next history (Prepare name batch) legal refl
