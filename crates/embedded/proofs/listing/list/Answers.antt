use Rattle.basilcorbel.proofs.Calls.{is_registered}
use Rattle.embedded.proofs.listing.list.Goals as goal

pub rows_at-found-requires-clause-registered : goal.rows_at-found-requires-clause-registered
rows_at-found-requires-clause-registered g c = is_registered c.args.store.now c.args.seat.now c.snapshot.new.seat c.in_ok-at.at c.in_ok-at.ensures.registered
