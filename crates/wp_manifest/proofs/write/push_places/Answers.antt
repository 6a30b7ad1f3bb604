use Rattle.std.proofs.lemmas.List.{take_all}
use Rattle.wp_manifest.proofs.EditLemmas.{places-written, ArePlaces-more}
use Rattle.wp_manifest.proofs.write.push_places.Goals as goal

pub loop-table-preserved : goal.loop-table-preserved
loop-table-preserved c = record {
  pushed = places-written c.args.out.now.items c.loop-table.out.items c.push_place.new.out.items c.args.tables.now c.loop-table.table-index _ c.loop-table-test.true c.loop-table.invariant.pushed c.in_ok-push_place.ensures.pushed;
  in_range = ArePlaces-more c.args.tables.now c.loop-table.table-index _ c.loop-table-test.true c.loop-table.invariant.in_range c.in_ok-push_place.ensures.in_range;
}

pub returns-clause-pushed : goal.returns-clause-pushed
returns-clause-pushed c = rw (← take_all c.loop-table.table-index c.args.tables.now c.loop-table-test.false) c.loop-table.invariant.pushed

pub returns-clause-in_range : goal.returns-clause-in_range
returns-clause-in_range c = rw (← take_all c.loop-table.table-index c.args.tables.now c.loop-table-test.false) c.loop-table.invariant.in_range
