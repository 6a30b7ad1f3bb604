use Rattle.basilcorbel.proofs.Calls.{stays_open}
use Rattle.embedded.proofs.transfer.stage_both.Goals as goal

pub returns-in_err-stage-clause-open : goal.returns-in_err-stage-clause-open
returns-in_err-stage-clause-open g c = stays_open c.args.store.now c.args.seat.now c.stage.new.seat c.args.txn.now c.stage.new.txn c.args.debit c.stage.result c.stage.ensures

pub returns-clause-open : goal.returns-clause-open
returns-clause-open g c = stays_open c.args.store.now c.stage.new.seat c.stage-2.new.seat c.stage.new.txn c.stage-2.new.txn c.args.credit c.stage-2.result c.stage-2.ensures
