use Rattle.std.proofs.Common.{◌≡◌, drop}
use Rattle.wp_table.specs.Reading.{after_places}
use Rattle.wp_table.proofs.reading.same_places.Given as goal

abbrev pub invariant-loop-place : goal.invariant-loop-place
invariant-loop-place l = after_places (drop l.place-index l.places) l.fields ≡ after_places l.fn.places l.fn.fields
