use Rattle.wp_encoding.proofs.WordLemmas.{value_takes, value_again, value_fails, value_refused}
use Rattle.wp_encoding.proofs.laws.values_are_read.Goals as goal

pub returns-clause-spelled : goal.returns-clause-spelled
returns-clause-spelled c = value_again

pub returns-clause-only : goal.returns-clause-only
returns-clause-only c = λ bytes value rest h e. let found = value_takes bytes (value, rest) h e in (found.1, found.0.parts)

pub returns-clause-refused : goal.returns-clause-refused
returns-clause-refused c = λ bytes fault h. (value_fails bytes fault h, value_refused bytes fault)
