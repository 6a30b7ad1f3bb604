use Rattle.std.proofs.lemmas.Grind.{common_steps}
use Rattle.std.proofs.Common.{arith, length-append, ◌∷◌, []}
use Rattle.wp_manifest.proofs.EditLemmas.{places-read, ArePlaces-push}
use Rattle.wp_manifest.proofs.read.read_places.Goals as goal

pub loop-preserved : goal.loop-preserved
loop-preserved c =
    let taken = c.in-Some.ensures in
    rw c.in_ok-push.ensures.items (record {
      read = places-read c.args.fields.now c.loop.fields c.read_place.new.fields c.loop.tables.items c.in-Some.table c.loop.invariant.read taken.0;
      counted = omega (arith, c.loop.invariant.counted, length-append c.loop.tables.items (c.in-Some.table ∷ []));
      left = omega (arith, c.loop.invariant.left, taken.1, c.loop-test.true);
      places = ArePlaces-push c.loop.tables.items c.in-Some.table c.loop.invariant.places taken.2 taken.3;
    })

pub returns-clause-spelling : goal.returns-clause-spelling
returns-clause-spelling c = grind (arith, common_steps)
