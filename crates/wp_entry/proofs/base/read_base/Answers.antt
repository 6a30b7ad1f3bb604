use Rattle.std.proofs.Common.{subst, ap, ◌∙◌, arith}
use Rattle.wp_fields.specs.Reading.{Gives}
use Rattle.wp_entry.specs.Errors.{record_fault}
use Rattle.wp_entry.specs.BaseReading.{base_at}
use Rattle.wp_entry.proofs.BaseFaultLemmas.{base_refused, refused_has_fault}
use Rattle.wp_entry.proofs.BaseGrammar.{base_again_whole, found_is_base}
use Rattle.wp_entry.proofs.base.read_base.Goals as goal

pub returns-clause-found : goal.returns-clause-found
returns-clause-found c = found_is_base c.args.bytes.now c.whole_base.result (λ i. omega (arith, c.type_inv.bytes i)) c.whole_base.ensures

pub returns-clause-only : goal.returns-clause-only
returns-clause-only c = λ written is spelled. subst (Gives record_fault (λ base. base) c.whole_base.result) (ap base_at spelled ∙ base_again_whole written is) c.whole_base.ensures

pub returns-clause-refused : goal.returns-clause-refused
returns-clause-refused c = refused_has_fault c.args.bytes.now c.whole_base.result (λ i. omega (arith, c.type_inv.bytes i)) c.whole_base.ensures

pub returns-clause-each_fault : goal.returns-clause-each_fault
returns-clause-each_fault c = λ fault is. subst (Gives record_fault (λ base. base) c.whole_base.result) (base_refused c.args.bytes.now fault is) c.whole_base.ensures
