use Rattle.std.proofs.Common.{subst, arith}
use Rattle.wp_fields.specs.Reading.{Gives}
use Rattle.wp_table.specs.Errors.{table_fault}
use Rattle.wp_table.specs.Walk.{stored_versions}
use Rattle.wp_table.proofs.Judged.{judged_exact, judged_indexed}
use Rattle.wp_table.proofs.Whole.{found_is_table, table_spelled}
use Rattle.wp_table.proofs.WholeFaults.{table_refused, refused_has_fault}
use Rattle.wp_table.proofs.reading.judge.Goals as goal

pub returns-clause-exact : goal.returns-clause-exact
returns-clause-exact c = judged_exact c.args.id c.args.flushed c.args.bytes.now c.table.result (λ i. omega (arith, c.type_inv.bytes i)) c.table.ensures

pub returns-clause-found : goal.returns-clause-found
returns-clause-found c =
    found_is_table (λ read. stored_versions read.0 c.args.bytes.now read.1) c.args.id c.args.flushed c.args.bytes.now c.table.result (λ i. omega (arith, c.type_inv.bytes i)) (returns-clause-exact c)

pub returns-clause-only : goal.returns-clause-only
returns-clause-only c = λ written spells. subst (Gives table_fault (λ read. stored_versions read.0 c.args.bytes.now read.1) c.table.result) (table_spelled c.args.id c.args.flushed written c.args.bytes.now spells) (returns-clause-exact c)

pub returns-clause-refused : goal.returns-clause-refused
returns-clause-refused c =
    refused_has_fault (λ read. stored_versions read.0 c.args.bytes.now read.1) c.args.id c.args.flushed c.args.bytes.now c.table.result (λ i. omega (arith, c.type_inv.bytes i)) (returns-clause-exact c)

pub returns-clause-each_fault : goal.returns-clause-each_fault
returns-clause-each_fault c = λ fault is. subst (Gives table_fault (λ read. stored_versions read.0 c.args.bytes.now read.1) c.table.result) (table_refused c.args.id c.args.flushed c.args.bytes.now fault is) (returns-clause-exact c)

pub returns-clause-indexed : goal.returns-clause-indexed
returns-clause-indexed c = judged_indexed c.args.id c.args.flushed c.args.bytes.now c.table.result (λ i. omega (arith, c.type_inv.bytes i)) c.table.ensures
