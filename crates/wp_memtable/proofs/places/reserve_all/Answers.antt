use Rattle.std.proofs.Common.{arith, ◌∙◌}
use Rattle.std.proofs.lemmas.Grind.{common_steps}
use Rattle.wp_memtable.proofs.Listed.{have_places_more}
use Rattle.wp_memtable.proofs.places.reserve_all.Goals as goal

pub loop-change-preserved : goal.loop-change-preserved
loop-change-preserved c = record {
  places = λ n. have_places_more _ _ c.args.changes.now c.loop-change.change-index n c.change-item.result c.loop-change-test.true c.change-item.is (c.loop-change.invariant.places n) (λ key. c.in_ok-reserve.ensures.others key n) (rw c.key.ensures at c.in_ok-reserve.ensures.place n);
  same_versions = c.reserve.ensures.same_versions ∙ c.loop-change.invariant.same_versions;
  well_ordered = c.reserve.ensures.well_ordered;
}

pub returns-clause-places : goal.returns-clause-places
returns-clause-places c = grind (arith, common_steps)
