use Rattle.wp_model.proofs.Rows.{stored_is}
use Rattle.wp_model.proofs.RowLaws.{row_is, rows_stay, rows_part, same_rows}
use Rattle.wp_history_laws.proofs.laws.rows_are_values.Goals as goal

pub returns-clause-stored : goal.returns-clause-stored
returns-clause-stored c = stored_is

pub returns-clause-rows : goal.returns-clause-rows
returns-clause-rows c = λ history from to n row. row_is history from to n row

pub returns-clause-later : goal.returns-clause-later
returns-clause-later c = λ history more above key to n within. rows_stay history more above key to n within

pub returns-clause-behind : goal.returns-clause-behind
returns-clause-behind c = λ history above at key to n from within. rows_part history above at key to n from within

pub returns-clause-alike : goal.returns-clause-alike
returns-clause-alike c = same_rows
