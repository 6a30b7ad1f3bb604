use Rattle.std.proofs.Common.{refl}
use Rattle.wp_text.specs.declared.script.Command.TheVariants as command
use Rattle.wp_client.specs.declared.holdings.HeldTxn.TheVariants as held
use Rattle.wp_client.proofs.States.{refused_so}
use Rattle.wp_answers.proofs.decisions.prepare.Goals as goal

pub returns-in-Idle-clause-answered : goal.returns-in-Idle-clause-answered
returns-in-Idle-clause-answered g c = refused_so c.args.store.now c.args.seat.now c.args.txn held.Idle c.in-Idle.is command.Prepare c.requires (λ snapshots. refl) refl (λ before. refl) (λ store snapshots. refl)

pub returns-in-Prepared-clause-answered : goal.returns-in-Prepared-clause-answered
returns-in-Prepared-clause-answered g c = refused_so c.args.store.now c.args.seat.now c.args.txn (held.Prepared c.in-Prepared.prepared) c.in-Prepared.is command.Prepare c.requires (λ snapshots. refl) refl (λ before. refl) (λ store snapshots. refl)

pub prepare_open-requires : goal.prepare_open-requires
prepare_open-requires g c = rw c.in-Open.is at c.requires

pub returns-in-Open-clause-holds : goal.returns-in-Open-clause-holds
returns-in-Open-clause-holds g c = rw c.in-Open.is c.prepare_open.ensures.holds

pub returns-in-Open-clause-answered : goal.returns-in-Open-clause-answered
returns-in-Open-clause-answered g c = rw c.in-Open.is c.prepare_open.ensures.answered

pub returns-in-Open-clause-err : goal.returns-in-Open-clause-err
returns-in-Open-clause-err g c = rw c.in-Open.is c.prepare_open.ensures.err

pub returns-in-Open-clause-uncalled : goal.returns-in-Open-clause-uncalled
returns-in-Open-clause-uncalled g c = rw c.in-Open.is c.prepare_open.ensures.uncalled
