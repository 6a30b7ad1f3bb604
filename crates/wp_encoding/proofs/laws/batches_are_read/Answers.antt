use Rattle.wp_encoding.proofs.ChangeLemmas.{batch_takes, batch_again, batch_fails, batch_refused}
use Rattle.wp_encoding.proofs.laws.batches_are_read.Goals as goal

pub returns-clause-spelled : goal.returns-clause-spelled
returns-clause-spelled c = batch_again

pub returns-clause-only : goal.returns-clause-only
returns-clause-only c = λ bytes rest batch h e. let found = batch_takes bytes (batch, rest) h e in (found.1, found.0.parts)

pub returns-clause-refused : goal.returns-clause-refused
returns-clause-refused c = λ bytes fault h. (batch_fails bytes fault h, batch_refused bytes fault)
