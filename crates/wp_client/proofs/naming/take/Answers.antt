use Rattle.std.proofs.Common.{refl}
use Rattle.wp_text.specs.declared.script.Command.TheVariants as command
use Rattle.wp_client.specs.declared.holdings.HeldTxn.TheVariants as held
use Rattle.wp_client.proofs.States.{refused_so}
use Rattle.wp_client.proofs.naming.take.Goals as goal

pub returns-in-Idle-clause-err : goal.returns-in-Idle-clause-err
returns-in-Idle-clause-err g c = rw c.in-Idle.is c.take_now.ensures.err

pub returns-in-Open-clause-answered : goal.returns-in-Open-clause-answered
returns-in-Open-clause-answered g c = refused_so c.args.store.now c.args.seat.now c.args.txn (held.Open c.in-Open.open) c.in-Open.is (command.Take c.args.name.now) c.requires (λ snapshots. refl) refl (λ before. refl) (λ store snapshots. refl)

pub returns-in-Prepared-clause-answered : goal.returns-in-Prepared-clause-answered
returns-in-Prepared-clause-answered g c = refused_so c.args.store.now c.args.seat.now c.args.txn (held.Prepared c.in-Prepared.prepared) c.in-Prepared.is (command.Take c.args.name.now) c.requires (λ snapshots. refl) refl (λ before. refl) (λ store snapshots. refl)

pub take_now-requires : goal.take_now-requires
take_now-requires g c = rw c.in-Idle.is at c.requires

pub returns-in-Idle-clause-holds : goal.returns-in-Idle-clause-holds
returns-in-Idle-clause-holds g c = rw c.in-Idle.is c.take_now.ensures.holds

pub returns-in-Idle-clause-answered : goal.returns-in-Idle-clause-answered
returns-in-Idle-clause-answered g c = rw c.in-Idle.is c.take_now.ensures.answered
