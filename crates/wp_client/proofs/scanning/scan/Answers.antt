use Rattle.std.proofs.Common.{refl}
use Rattle.wp_text.specs.declared.script.Command.TheVariants as command
use Rattle.wp_client.proofs.Reading.{keeps_at_once}
use Rattle.wp_client.proofs.States.{refused_as_it_was}
use Rattle.wp_client.proofs.scanning.scan.Goals as goal

pub scan_now-requires : goal.scan_now-requires
scan_now-requires g c = rw c.in-Idle.is at c.requires

pub returns-in-Idle-clause-answered : goal.returns-in-Idle-clause-answered
returns-in-Idle-clause-answered g c = rw c.in-Idle.is c.scan_now.ensures.answered

pub returns-in-Open-clause-goes_on : goal.returns-in-Open-clause-goes_on
returns-in-Open-clause-goes_on g c = keeps_at_once c.args.store.now c.args.seat.now c.requires.free

pub returns-in-Prepared-clause-goes_on : goal.returns-in-Prepared-clause-goes_on
returns-in-Prepared-clause-goes_on g c = keeps_at_once c.args.store.now c.args.seat.now c.requires.free

pub returns-in-Open-clause-answered : goal.returns-in-Open-clause-answered
returns-in-Open-clause-answered g c = refused_as_it_was c.args.store.now c.args.seat.now c.args.txn.now _ c.in-Open.is (command.Scan c.args.from.now c.args.to.now) c.requires (λ snapshots. refl) refl (λ before. refl) (λ store snapshots. refl)

pub returns-in-Prepared-clause-answered : goal.returns-in-Prepared-clause-answered
returns-in-Prepared-clause-answered g c = refused_as_it_was c.args.store.now c.args.seat.now c.args.txn.now _ c.in-Prepared.is (command.Scan c.args.from.now c.args.to.now) c.requires (λ snapshots. refl) refl (λ before. refl) (λ store snapshots. refl)
