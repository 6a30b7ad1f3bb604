use Rattle.wp_table.proofs.Whole.{table_takes, table_spelled}
use Rattle.wp_table.proofs.WholeFaults.{table_fails, table_refused}
use Rattle.wp_table.proofs.laws.tables_are_read.Goals as goal

pub returns-clause-spelled : goal.returns-clause-spelled
returns-clause-spelled c = table_spelled

pub returns-clause-only : goal.returns-clause-only
returns-clause-only c = table_takes

pub returns-clause-refused : goal.returns-clause-refused
returns-clause-refused c = λ id flushed bytes fault h. (table_fails id flushed bytes fault h, table_refused id flushed bytes fault)
