use Rattle.wp_entry.proofs.BaseFaultLemmas.{base_fails, base_refused}
use Rattle.wp_entry.proofs.BaseGrammar.{base_takes, base_again_whole}
use Rattle.wp_entry.proofs.laws.bases_are_read.Goals as goal

pub returns-clause-spelled : goal.returns-clause-spelled
returns-clause-spelled c = base_again_whole

pub returns-clause-only : goal.returns-clause-only
returns-clause-only c = base_takes

pub returns-clause-refused : goal.returns-clause-refused
returns-clause-refused c = λ bytes fault h. (base_fails bytes fault h, base_refused bytes fault)
