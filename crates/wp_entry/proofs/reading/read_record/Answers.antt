use Rattle.std.proofs.Common.{subst, ap, ◌∙◌, arith}
use Rattle.wp_fields.specs.Reading.{Gives}
use Rattle.wp_entry.specs.Errors.{record_fault}
use Rattle.wp_entry.specs.Reading.{record_at}
use Rattle.wp_entry.proofs.FaultLemmas.{record_refused, refused_has_fault}
use Rattle.wp_entry.proofs.Grammar.{found_is_record}
use Rattle.wp_entry.proofs.Spelled.{record_again}
use Rattle.wp_entry.proofs.reading.read_record.Goals as goal

pub returns-clause-found : goal.returns-clause-found
returns-clause-found c = found_is_record c.args.format c.args.first c.args.bytes.now c.record.result (λ i. omega (arith, c.type_inv.bytes i)) c.record.ensures

pub returns-clause-only : goal.returns-clause-only
returns-clause-only c = λ entries is spelled. subst (Gives record_fault (λ entries. entries.items) c.record.result) (ap (record_at c.args.format c.args.first) spelled ∙ record_again c.args.format c.args.first entries is) c.record.ensures

pub returns-clause-refused : goal.returns-clause-refused
returns-clause-refused c = refused_has_fault c.args.format c.args.first c.args.bytes.now c.record.result (λ i. omega (arith, c.type_inv.bytes i)) c.record.ensures

pub returns-clause-each_fault : goal.returns-clause-each_fault
returns-clause-each_fault c = λ fault is. subst (Gives record_fault (λ entries. entries.items) c.record.result) (record_refused c.args.format c.args.first c.args.bytes.now fault is) c.record.ensures
