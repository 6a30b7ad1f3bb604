use Rattle.std.proofs.Common.{ap, ◌∙◌}
use Rattle.wp_machine.specs.Machine.{reader_step}
use Rattle.wp_machine_permits.proofs.permitted.reader.reader.Goals as goal

pub returns-in-BeginReading : goal.returns-in-BeginReading
returns-in-BeginReading c begins = let o = c.may_begin.ensures begins c.args.by in record { step = o.step; is = ap (reader_step c.args.actor.now.participant) c.in-BeginReading.is ∙ o.is; needs = o.needs }
