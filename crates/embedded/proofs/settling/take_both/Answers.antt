use Rattle.basilcorbel.proofs.Calls.{prepared_beside, both_prepared}
use Rattle.embedded.proofs.settling.take_both.Goals as goal

pub leave-requires-clause-prepared : goal.leave-requires-clause-prepared
leave-requires-clause-prepared g c = prepared_beside c.args.store.now c.take_prepared.new.seat c.take_prepared-2.new.seat c.args.second.now c.in_ok-one.one c.take_prepared-2.result c.take_prepared-2.ensures c.in_ok-one.ensures.has

pub returns-in-Ok-clause-prepared : goal.returns-in-Ok-clause-prepared
returns-in-Ok-clause-prepared g c = both_prepared c.args.store.now c.take_prepared.new.seat c.take_prepared-2.new.seat c.args.second.now c.in_ok-one.one c.in-Ok.other c.in-Ok.ensures c.in_ok-one.ensures.has
