use Rattle.std.proofs.Common.{ap, option_map}
use Rattle.wp_core.specs.Steps.{join_seat}
use Rattle.wp_machine.proofs.Acting.{got}
use Rattle.wp_machine_permits.proofs.permitted.joins_seat.Goals as goal

pub returns-in-Some : goal.returns-in-Some
returns-in-Some c passed a = let is = c.in-Some.ensures.there in let seat = c.is_free_seat.ensures passed in record { step = join_seat c.args.place c.in-Some.seat.now; is = ap (option_map (join_seat c.args.place)) is; needs = (c.if-by-ne0.false, c.in-Some.ensures.apart, got c.args.world.now.actors c.args.place c.in-Some.seat.now is, seat.0, seat.1) }
