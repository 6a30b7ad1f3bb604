use Rattle.std.proofs.Common.{refl}
use Rattle.wp_core.specs.Views.{unprepared}
use Rattle.wp_open_txns.proofs.KeyTaken.{owns_on, frees_later}
use Rattle.wp_open_txns.proofs.validating.read_taken.Goals as goal

pub give_back-requires-clause-has : goal.give_back-requires-clause-has
give_back-requires-clause-has g c = owns_on c.args.store.now c.args.seat.now c.get_now.new.seat c.args.name.now c.args.key.now (c.in-Err.ensures {u = tt}).refused c.requires.has

pub give_back-requires-clause-noted : goal.give_back-requires-clause-noted
give_back-requires-clause-noted g c = (c.in-Err.ensures {u = tt}).refused.notes (unprepared c.args.name.now) refl c.requires.noted

pub returns-in-Err-clause-refused : goal.returns-in-Err-clause-refused
returns-in-Err-clause-refused g c = frees_later c.args.store.now c.args.seat.now c.get_now.new.seat c.give_back.new.seat c.args.name.now c.args.key.now (c.in-Err.ensures {u = tt}).refused c.give_back.ensures.frees
