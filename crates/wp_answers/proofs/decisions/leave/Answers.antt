use Rattle.std.proofs.Common.{refl}
use Rattle.wp_text.specs.declared.reply.Reply.TheVariants as reply
use Rattle.wp_text.specs.declared.script.Command.TheVariants as command
use Rattle.wp_client.specs.declared.holdings.HeldTxn.TheVariants as held
use Rattle.wp_client.proofs.Clients.{answers_from}
use Rattle.wp_client.proofs.GivenUp.{given_up_prepared}
use Rattle.wp_answers.proofs.Decides.{left_answers}
use Rattle.wp_client.proofs.States.{refused_so}
use Rattle.wp_answers.proofs.decisions.leave.Goals as goal

pub returns-in-Idle-clause-answered : goal.returns-in-Idle-clause-answered
returns-in-Idle-clause-answered g c = refused_so c.args.store.now c.args.seat.now c.args.txn held.Idle c.in-Idle.is command.Leave c.requires (λ snapshots. refl) refl (λ before. refl) (λ store snapshots. refl)

pub returns-in-Open-clause-answered : goal.returns-in-Open-clause-answered
returns-in-Open-clause-answered g c = refused_so c.args.store.now c.args.seat.now c.args.txn (held.Open c.in-Open.open) c.in-Open.is command.Leave c.requires (λ snapshots. refl) refl (λ before. refl) (λ store snapshots. refl)

pub returns-in-Prepared-clause-holds : goal.returns-in-Prepared-clause-holds
returns-in-Prepared-clause-holds g c = rw c.in-Prepared.is (given_up_prepared c.args.store.now c.args.seat.now c.leave.new.seat c.in-Prepared.prepared (rw c.in-Prepared.is at c.requires) c.leave.ensures.gives_up)

pub returns-in-Prepared-clause-answered : goal.returns-in-Prepared-clause-answered
returns-in-Prepared-clause-answered g c =
    let z = c.args.store.now in let s = c.args.seat.now in let t = c.leave.new.seat in let prepared = c.in-Prepared.prepared in
    rw c.in-Prepared.is (answers_from z s t (held.Prepared prepared) held.Idle command.Leave reply.Left (λ snapshots. left_answers z s t snapshots prepared (rw c.in-Prepared.is at c.requires).has c.leave.ensures.noted c.leave.ensures.gives_up))
