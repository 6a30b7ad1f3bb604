use Rattle.std.proofs.Common.{◌≤◌, length, subst}
use Rattle.wp_fields.specs.Reading.{Gives}
use Rattle.wp_text.specs.Grammar.{IsScript, commands_of}
use Rattle.wp_text.specs.Reading.{script_fault}
use Rattle.wp_text.proofs.AsRead.{script_given, error_given}
use Rattle.wp_text.proofs.CommandCount.{few_commands}
use Rattle.wp_text.proofs.ScriptLaws.{is_script_again, is_fault_again}
use Rattle.wp_text.proofs.read.read_script.Goals as goal

pub returns-clause-script : goal.returns-clause-script
returns-clause-script c = script_given c.args.bytes.now c.read_all.result (λ parts. IsScript c.args.bytes.now parts) c.read_all.ensures (λ parts is. is)

pub returns-clause-error : goal.returns-clause-error
returns-clause-error c = error_given c.args.bytes.now c.read_all.result c.read_all.ensures

pub returns-clause-each_script : goal.returns-clause-each_script
returns-clause-each_script c = λ parts is. subst (Gives script_fault (λ parts. parts) c.read_all.result) (is_script_again c.args.bytes.now parts is) c.read_all.ensures

pub returns-clause-each_fault : goal.returns-clause-each_fault
returns-clause-each_fault c = λ fault is. subst (Gives script_fault (λ parts. parts) c.read_all.result) (is_fault_again c.args.bytes.now fault.line fault.why is) c.read_all.ensures

pub returns-clause-few_commands : goal.returns-clause-few_commands
returns-clause-few_commands c = script_given c.args.bytes.now c.read_all.result (λ parts. length (commands_of parts) ≤ length c.args.bytes.now) c.read_all.ensures (λ parts is. few_commands c.args.bytes.now parts is)
