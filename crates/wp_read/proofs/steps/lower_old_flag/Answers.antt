use Rattle.wp_read.proofs.OldFlag.{may_lower, lowered, lowered_noted}
use Rattle.wp_read.proofs.steps.lower_old_flag.Goals as goal

pub store_old_flag-requires-clause-may : goal.store_old_flag-requires-clause-may
store_old_flag-requires-clause-may g c = let m = c.requires.none_kept in may_lower c.args.store.now c.args.seat.now m.0 m.1 m.2

pub returns-clause-seat : goal.returns-clause-seat
returns-clause-seat g c = lowered c.args.store.now c.args.seat.now c.store_old_flag.new.seat c.store_old_flag.ensures.moved c.store_old_flag.ensures.same

pub returns-clause-flag : goal.returns-clause-flag
returns-clause-flag g c = lowered_noted c.args.store.now c.args.seat.now c.store_old_flag.new.seat c.store_old_flag.ensures.moved
