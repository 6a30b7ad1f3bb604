use Rattle.std.proofs.Common.{ap, option_map}
use Rattle.wp_core.specs.Steps.{learn}
use Rattle.wp_machine.proofs.Acting.{got}
use Rattle.wp_machine_permits.proofs.permitted.learns.Goals as goal

pub returns-in-Some : goal.returns-in-Some
returns-in-Some c passed a = let is = c.in-Some.ensures.there in record { step = learn c.args.place c.in-Some.note.now; is = ap (option_map (learn c.args.place)) is; needs = (c.in-Some.ensures.apart, got c.args.world.now.actors c.args.place c.in-Some.note.now is, c.is_dead.ensures passed) }
