use Rattle.std.proofs.Common.{refl}
use Rattle.wp_text.specs.declared.script.Command.TheVariants as command
use Rattle.wp_client.specs.declared.holdings.HeldTxn.TheVariants as held
use Rattle.wp_client.proofs.States.{refused_as_it_was}
use Rattle.wp_client.proofs.pinning.pin.Goals as goal

pub returns-in-Idle-clause-answered : goal.returns-in-Idle-clause-answered
returns-in-Idle-clause-answered g c = refused_as_it_was c.args.store.now c.args.seat.now c.args.txn.now held.Idle c.in-Idle.is command.Pin c.requires (λ snapshots. refl) refl (λ before. refl) (λ store snapshots. refl)

pub returns-in-Prepared-clause-answered : goal.returns-in-Prepared-clause-answered
returns-in-Prepared-clause-answered g c = refused_as_it_was c.args.store.now c.args.seat.now c.args.txn.now _ c.in-Prepared.is command.Pin c.requires (λ snapshots. refl) refl (λ before. refl) (λ store snapshots. refl)

pub returns-in-Open-clause-err : goal.returns-in-Open-clause-err
returns-in-Open-clause-err g c = rw c.in-Open.is c.pin_open.ensures.err
