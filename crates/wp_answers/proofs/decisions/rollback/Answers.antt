use Rattle.std.proofs.Common.{refl}
use Rattle.wp_text.specs.declared.reply.Reply.TheVariants as reply
use Rattle.wp_text.specs.declared.script.Command.TheVariants as command
use Rattle.wp_client.specs.declared.holdings.HeldTxn.TheVariants as held
use Rattle.wp_client.proofs.Clients.{answers_from}
use Rattle.wp_client.proofs.GivenUp.{given_up_open}
use Rattle.wp_answers.proofs.Decides.{dropped_answers}
use Rattle.wp_client.proofs.States.{refused_so}
use Rattle.wp_answers.proofs.decisions.rollback.Goals as goal

pub returns-in-Idle-clause-answered : goal.returns-in-Idle-clause-answered
returns-in-Idle-clause-answered g c = refused_so c.args.store.now c.args.seat.now c.args.txn held.Idle c.in-Idle.is command.Rollback c.requires (λ snapshots. refl) refl (λ before. refl) (λ store snapshots. refl)

pub returns-in-Open-clause-holds : goal.returns-in-Open-clause-holds
returns-in-Open-clause-holds g c = rw c.in-Open.is (given_up_open c.args.store.now c.args.seat.now c.abandon.new.seat c.in-Open.open (rw c.in-Open.is at c.requires) c.abandon.ensures.gives_up)

pub returns-in-Open-clause-answered : goal.returns-in-Open-clause-answered
returns-in-Open-clause-answered g c =
    let z = c.args.store.now in let s = c.args.seat.now in let t = c.abandon.new.seat in let begun = c.in-Open.open in
    rw c.in-Open.is (answers_from z s t (held.Open begun) held.Idle command.Rollback reply.Dropped (λ snapshots. dropped_answers z s t snapshots begun c.abandon.ensures.gives_up))

pub rollback_prepared-requires : goal.rollback_prepared-requires
rollback_prepared-requires g c = rw c.in-Prepared.is at c.requires

pub returns-in-Prepared-clause-holds : goal.returns-in-Prepared-clause-holds
returns-in-Prepared-clause-holds g c = rw c.in-Prepared.is c.rollback_prepared.ensures.holds

pub returns-in-Prepared-clause-answered : goal.returns-in-Prepared-clause-answered
returns-in-Prepared-clause-answered g c = rw c.in-Prepared.is c.rollback_prepared.ensures.answered

pub returns-in-Prepared-clause-err : goal.returns-in-Prepared-clause-err
returns-in-Prepared-clause-err g c = rw c.in-Prepared.is c.rollback_prepared.ensures.err

pub returns-in-Prepared-clause-uncalled : goal.returns-in-Prepared-clause-uncalled
returns-in-Prepared-clause-uncalled g c = rw c.in-Prepared.is c.rollback_prepared.ensures.uncalled
