use Rattle.std.proofs.Common.{refl}
use Rattle.wp_text.specs.declared.script.Command.TheVariants as command
use Rattle.wp_client.specs.declared.holdings.HeldTxn.TheVariants as held
use Rattle.wp_client.proofs.States.{refused_so}
use Rattle.wp_answers.proofs.decisions.commit.Goals as goal

pub returns-in-Idle-clause-answered : goal.returns-in-Idle-clause-answered
returns-in-Idle-clause-answered g c = refused_so c.args.store.now c.args.seat.now c.args.txn held.Idle c.in-Idle.is command.Commit c.requires (λ snapshots. refl) refl (λ before. refl) (λ store snapshots. refl)

pub commit_open-requires : goal.commit_open-requires
commit_open-requires g c = rw c.in-Open.is at c.requires

pub returns-in-Open-clause-holds : goal.returns-in-Open-clause-holds
returns-in-Open-clause-holds g c = rw c.in-Open.is c.commit_open.ensures.holds

pub returns-in-Open-clause-answered : goal.returns-in-Open-clause-answered
returns-in-Open-clause-answered g c = rw c.in-Open.is c.commit_open.ensures.answered

pub returns-in-Open-clause-err : goal.returns-in-Open-clause-err
returns-in-Open-clause-err g c = rw c.in-Open.is c.commit_open.ensures.err

pub commit_prepared-requires : goal.commit_prepared-requires
commit_prepared-requires g c = rw c.in-Prepared.is at c.requires

pub returns-in-Prepared-clause-holds : goal.returns-in-Prepared-clause-holds
returns-in-Prepared-clause-holds g c = rw c.in-Prepared.is c.commit_prepared.ensures.holds

pub returns-in-Prepared-clause-answered : goal.returns-in-Prepared-clause-answered
returns-in-Prepared-clause-answered g c = rw c.in-Prepared.is c.commit_prepared.ensures.answered

pub returns-in-Prepared-clause-err : goal.returns-in-Prepared-clause-err
returns-in-Prepared-clause-err g c = rw c.in-Prepared.is c.commit_prepared.ensures.err

pub returns-in-Open-clause-uncalled : goal.returns-in-Open-clause-uncalled
returns-in-Open-clause-uncalled g c = rw c.in-Open.is c.commit_open.ensures.uncalled

pub returns-in-Prepared-clause-uncalled : goal.returns-in-Prepared-clause-uncalled
returns-in-Prepared-clause-uncalled g c = rw c.in-Prepared.is c.commit_prepared.ensures.uncalled
