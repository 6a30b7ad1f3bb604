use Rattle.basilcorbel.proofs.Calls.{is_registered}
use Rattle.embedded.proofs.transfer.look.Goals as goal

pub read_both-found-requires-clause-registered : goal.read_both-found-requires-clause-registered
read_both-found-requires-clause-registered g c = is_registered c.args.store.now c.args.seat.now c.snapshot.new.seat c.in_ok-at.at c.in_ok-at.ensures.registered
