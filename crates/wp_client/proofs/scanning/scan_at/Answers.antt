use Rattle.std.proofs.Common.{refl, sym, subst}
use Rattle.wp_text.specs.declared.script.Command.TheVariants as command
use Rattle.wp_client.specs.Holdings.{HoldingsState, client_of, Holds}
use Rattle.wp_client.proofs.Reading.{keeps_at_once}
use Rattle.wp_client.proofs.States.{refused_as_it_was}
use Rattle.wp_client.proofs.scanning.scan_at.Goals as goal

pub scan_labelled-requires-clause-idle : goal.scan_labelled-requires-clause-idle
scan_labelled-requires-clause-idle g c = rw (← c.held.view_is) c.in-Idle.is

pub returns-in-Open-clause-goes_on : goal.returns-in-Open-clause-goes_on
returns-in-Open-clause-goes_on g c = keeps_at_once c.args.store.now c.args.seat.now c.requires.txn.free

pub returns-in-Prepared-clause-goes_on : goal.returns-in-Prepared-clause-goes_on
returns-in-Prepared-clause-goes_on g c = keeps_at_once c.args.store.now c.args.seat.now c.requires.txn.free

pub returns-in-Open-clause-answered : goal.returns-in-Open-clause-answered
returns-in-Open-clause-answered g c =
    let z = c.args.store.now in let s = c.args.seat.now in
    let h : HoldingsState = record { txn = c.held.inside.txn; snapshots = c.held.inside.snapshots.items } in
    let has : Holds z s h = subst (Holds z s) (sym c.held.view_is) c.requires in
    rw (← c.held.view_is)
    (refused_as_it_was z s h.txn _ c.in-Open.is (command.ScanAt c.args.from.now c.args.to.now c.args.label.now) has.txn (λ snapshots. refl) refl (λ before. refl) (λ store snapshots. refl) (client_of h) refl)

pub returns-in-Prepared-clause-answered : goal.returns-in-Prepared-clause-answered
returns-in-Prepared-clause-answered g c =
    let z = c.args.store.now in let s = c.args.seat.now in
    let h : HoldingsState = record { txn = c.held.inside.txn; snapshots = c.held.inside.snapshots.items } in
    let has : Holds z s h = subst (Holds z s) (sym c.held.view_is) c.requires in
    rw (← c.held.view_is)
    (refused_as_it_was z s h.txn _ c.in-Prepared.is (command.ScanAt c.args.from.now c.args.to.now c.args.label.now) has.txn (λ snapshots. refl) refl (λ before. refl) (λ store snapshots. refl) (client_of h) refl)
