use Rattle.wp_client.specs.Holdings.{client_of}
use Rattle.wp_client.proofs.WholeClients.{beside_others, by_itself}
use Rattle.wp_answers.proofs.answering.answer.Goals as goal

pub shows_world-requires : goal.shows_world-requires
shows_world-requires g c = c.obey-outcome.ensures.holds.txn.free.same_table

pub returns-clause-holds : goal.returns-clause-holds
returns-clause-holds g c = rw c.shows_world.ensures.same c.obey-outcome.ensures.holds

pub returns-clause-answered : goal.returns-clause-answered
returns-clause-answered g c = rw c.shows_world.ensures.same
    (beside_others c.args.store.now c.args.seat.now c.obey-outcome.new.seat c.args.command.now c.obey-outcome.result (client_of c.args.held.now) (client_of c.obey-outcome.new.held) c.obey-outcome.ensures.answered)

pub returns-clause-alone : goal.returns-clause-alone
returns-clause-alone g c =
    let stands = rw c.shows_world.ensures.same at c.shows_world.ensures.stands in rw c.shows_world.ensures.same
    (by_itself c.args.store.now c.args.seat.now c.obey-outcome.new.seat c.args.command.now c.obey-outcome.result (client_of c.args.held.now) (client_of c.obey-outcome.new.held) stands.0 stands.1 c.obey-outcome.ensures.answered)

pub returns-clause-err : goal.returns-clause-err
returns-clause-err g c = rw c.shows_world.ensures.same c.obey-outcome.ensures.err

pub returns-clause-published : goal.returns-clause-published
returns-clause-published g c = rw c.shows_world.ensures.same c.obey-outcome.ensures.published

pub returns-clause-uncalled : goal.returns-clause-uncalled
returns-clause-uncalled g c = rw c.shows_world.ensures.same c.obey-outcome.ensures.uncalled
