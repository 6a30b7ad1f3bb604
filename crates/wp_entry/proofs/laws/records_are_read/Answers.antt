use Rattle.wp_entry.proofs.FaultLemmas.{record_fails, record_refused}
use Rattle.wp_entry.proofs.Grammar.{record_takes}
use Rattle.wp_entry.proofs.Spelled.{record_again}
use Rattle.wp_entry.proofs.laws.records_are_read.Goals as goal

pub returns-clause-spelled : goal.returns-clause-spelled
returns-clause-spelled c = record_again

pub returns-clause-only : goal.returns-clause-only
returns-clause-only c = record_takes

pub returns-clause-refused : goal.returns-clause-refused
returns-clause-refused c = λ format first bytes fault h. (record_fails format first bytes fault h, record_refused format first bytes fault)
