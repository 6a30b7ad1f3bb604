use Rattle.std.proofs.lemmas.Result.{err_from_is_err_and}
use Rattle.wp_table.specs.Reading.{after_places}
use Rattle.wp_table.proofs.Loop.{place_read, place_fails, places_read}
use Rattle.wp_table.proofs.reading.same_places.Goals as goal

pub returns-in_err-same_place : goal.returns-in_err-same_place
returns-in_err-same_place c =
    let p = err_from_is_err_and c.from_residual.result c.from_residual.ensures.1 in
    rw (p.1, p.2) (place_fails c.args.places.now c.loop-place.place-index c.loop-place.fields c.in_err-same_place.field-0.0 (after_places c.args.places.now c.args.fields.now) c.loop-place-test.true c.in_err-same_place.ensures c.loop-place.invariant)

pub loop-place-preserved : goal.loop-place-preserved
loop-place-preserved c =
    place_read c.args.places.now c.loop-place.place-index c.loop-place.fields c.same_place.new.fields (after_places c.args.places.now c.args.fields.now) c.loop-place-test.true c.in_ok-same_place.ensures c.loop-place.invariant

pub returns : goal.returns
returns c = places_read c.args.places.now c.loop-place.place-index c.loop-place.fields (after_places c.args.places.now c.args.fields.now) c.loop-place-test.false c.loop-place.invariant
