use Rattle.std.proofs.Common.{List, sym, ◌∙◌}
use Rattle.wp_model.specs.declared.version.Version.{Version}
use Rattle.wp_fields.proofs.Results.{ok_is, err_is, ok_or_err}
use Rattle.wp_table.specs.declared.error.TableError.{TableError}
use Rattle.wp_table.proofs.Whole.{table_spelled}
use Rattle.wp_table.proofs.WholeFaults.{table_refused, table_or_fault}
use Rattle.wp_table.proofs.laws.bytes_are_read_in_one_way.Goals as goal

pub returns-clause-either : goal.returns-clause-either
returns-clause-either c = table_or_fault

pub returns-clause-one_table : goal.returns-clause-one_table
returns-clause-one_table c = λ id flushed bytes one other is_one is_other. ok_is {E = TableError} one other (sym (table_spelled id flushed one bytes is_one) ∙ table_spelled id flushed other bytes is_other)

pub returns-clause-one_fault : goal.returns-clause-one_fault
returns-clause-one_fault c = λ id flushed bytes one other is_one is_other. err_is {A = List Version} one other (sym (table_refused id flushed bytes one is_one) ∙ table_refused id flushed bytes other is_other)

pub returns-clause-not_both : goal.returns-clause-not_both
returns-clause-not_both c = λ id flushed bytes versions fault is wrong. ok_or_err versions fault (sym (table_spelled id flushed versions bytes is) ∙ table_refused id flushed bytes fault wrong)
