use Rattle.std.proofs.Common.{inr}
use Rattle.wp_client.proofs.WholeClients.{if_broken}
use Rattle.wp_answers.proofs.AtOnce.{prepared_refuses}
use Rattle.wp_answers.proofs.Uncalled.{staged}
use Rattle.wp_answers.proofs.changes.change.Goals as goal

pub returns-in-Idle-clause-err : goal.returns-in-Idle-clause-err
returns-in-Idle-clause-err g c = rw c.in-Idle.is c.write_now.ensures.err

pub returns-in-Prepared-clause-answered : goal.returns-in-Prepared-clause-answered
returns-in-Prepared-clause-answered g c = prepared_refuses c.args.store.now c.args.seat.now c.args.txn.now _ c.in-Prepared.is c.args.command.now c.requires.of_change c.requires.has

pub returns-in-Idle-clause-uncalled : goal.returns-in-Idle-clause-uncalled
returns-in-Idle-clause-uncalled g c = rw c.in-Idle.is c.write_now.ensures.uncalled

pub returns-in_ok-change-in-Open-clause-uncalled : goal.returns-in_ok-change-in-Open-clause-uncalled
returns-in_ok-change-in-Open-clause-uncalled g c = rw c.in-Open.is (if_broken c.stage.result (inr (staged c.args.store.now c.args.seat.now c.stage.new.seat c.in-Open.open c.args.command.now c.requires.of_change)))
