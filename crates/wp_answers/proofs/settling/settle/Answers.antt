use Rattle.std.proofs.Common.{refl}
use Rattle.wp_text.specs.declared.script.Command.TheVariants as command
use Rattle.wp_client.specs.declared.holdings.HeldTxn.TheVariants as held
use Rattle.wp_client.specs.Holdings.{staged_of}
use Rattle.wp_client.proofs.States.{refused_as_it_was}
use Rattle.wp_answers.proofs.Settled.{open_settles_none, prepared_settles_none, open_settle_due, prepared_settle_due}
use Rattle.wp_answers.proofs.settling.settle.Goals as goal

pub settle_now-requires : goal.settle_now-requires
settle_now-requires g c = rw c.in-Idle.is at c.requires

pub returns-in-Idle-clause-holds : goal.returns-in-Idle-clause-holds
returns-in-Idle-clause-holds g c = rw c.in-Idle.is c.settle_now.ensures.holds

pub returns-in-Idle-clause-answered : goal.returns-in-Idle-clause-answered
returns-in-Idle-clause-answered g c = rw c.in-Idle.is c.settle_now.ensures.answered

pub returns-in-Idle-clause-err : goal.returns-in-Idle-clause-err
returns-in-Idle-clause-err g c = rw c.in-Idle.is c.settle_now.ensures.err

pub returns-in-Idle-clause-uncalled : goal.returns-in-Idle-clause-uncalled
returns-in-Idle-clause-uncalled g c = rw c.in-Idle.is c.settle_now.ensures.uncalled

pub returns-in-Open-clause-answered : goal.returns-in-Open-clause-answered
returns-in-Open-clause-answered g c = refused_as_it_was c.args.store.now c.args.seat.now c.args.txn.now _ c.in-Open.is (command.Settle c.args.names.now) c.requires (λ snapshots. open_settles_none (staged_of c.in-Open.field-0) c.args.names.now) refl (λ before. refl) (open_settle_due (staged_of c.in-Open.field-0) c.args.names.now)

pub returns-in-Prepared-clause-answered : goal.returns-in-Prepared-clause-answered
returns-in-Prepared-clause-answered g c = refused_as_it_was c.args.store.now c.args.seat.now c.args.txn.now _ c.in-Prepared.is (command.Settle c.args.names.now) c.requires (λ snapshots. prepared_settles_none c.in-Prepared.field-0.number c.args.names.now) refl (λ before. refl) (prepared_settle_due c.in-Prepared.field-0.number c.args.names.now)
