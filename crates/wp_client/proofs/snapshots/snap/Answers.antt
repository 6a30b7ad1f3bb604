use Rattle.std.specs.Prelude.{nat_le, is_some}
use Rattle.std.proofs.Common.{◌≡◌, length, map, None, refl, sym, subst, ◌∙◌}
use Rattle.wp_core.proofs.KeepsSeen.{whole}
use Rattle.wp_text.specs.declared.script.Command.TheVariants as command
use Rattle.wp_replies.specs.declared.client.TheConstants.{MOST_SNAPSHOTS}
use Rattle.wp_replies.specs.Client.{number_of}
use Rattle.wp_replies.specs.Replies.{refuses_label}
use Rattle.wp_client.specs.declared.holdings.HeldSnapshot.{HeldSnapshot}
use Rattle.wp_client.specs.Holdings.{HoldingsState, labelled, client_of, Holds}
use Rattle.wp_client.proofs.Fresh.{label_names}
use Rattle.wp_client.proofs.Places.{snapped_there, snapped_holds_there}
use Rattle.wp_client.proofs.Reading.{keeps_at_once}
use Rattle.wp_client.proofs.Snapping.{label_refused}
use Rattle.wp_client.proofs.Staying.{keeps_holds}
use Rattle.wp_client.proofs.WholeClients.{kept_breaks}
use Rattle.wp_client.proofs.snapshots.snap.Goals as goal

pub returns-in-Some-clause-answered : goal.returns-in-Some-clause-answered
returns-in-Some-clause-answered g c =
    label_refused c.args.store.now c.args.seat.now c.args.seat.now (client_of c.args.held.now) c.args.label.now (keeps_at_once c.args.store.now c.args.seat.now c.requires.txn.free) refl c.in-Some.reply
    (sym (c.in_ok-reply.ensures {u = tt}) ∙ c.in-Some.is)

pub returns-in_err-reserve-clause-holds : goal.returns-in_err-reserve-clause-holds
returns-in_err-reserve-clause-holds g c =
    let z = c.args.store.now in let s = c.args.seat.now in let label = c.args.label.now in
    let h : HoldingsState = record { txn = c.held.inside.txn; snapshots = c.held.inside.snapshots.items } in
    let has : Holds z s h = subst (Holds z s) (sym c.held.view_is) c.requires in
    rw c.reserve.ensures.items has

pub returns-in_err-snapshot-clause-holds : goal.returns-in_err-snapshot-clause-holds
returns-in_err-snapshot-clause-holds g c =
    let z = c.args.store.now in let s = c.args.seat.now in let label = c.args.label.now in
    let h : HoldingsState = record { txn = c.held.inside.txn; snapshots = c.held.inside.snapshots.items } in
    let has : Holds z s h = subst (Holds z s) (sym c.held.view_is) c.requires in
    rw c.reserve.ensures.items (keeps_holds z s c.snapshot.new.seat c.in_err-snapshot.ensures.refused h has)

pub returns-clause-holds : goal.returns-clause-holds
returns-clause-holds g c =
    let z = c.args.store.now in let s = c.args.seat.now in let label = c.args.label.now in
    let h : HoldingsState = record { txn = c.held.inside.txn; snapshots = c.held.inside.snapshots.items } in
    let has : Holds z s h = subst (Holds z s) (sym c.held.view_is) c.requires in
    let x : HeldSnapshot = record { label = c.in_ok-label.label; snapshot = c.in_ok-snapshot.snapshot } in
    let free : refuses_label (map labelled h.snapshots) label ≡ None = subst (λ (y : HoldingsState). refuses_label (map labelled y.snapshots) label ≡ None) (sym c.held.view_is) (sym (c.in_ok-reply.ensures {u = tt}) ∙ c.in_default.is) in
    rw (c.push_reserved.ensures.items, c.reserve.ensures.items)
    (snapped_holds_there z s c.snapshot.new.seat h x label (c.in_ok-label.ensures {u = tt}) free c.in_ok-snapshot.ensures.registered c.in_ok-snapshot.ensures.number has)

pub returns-clause-answered : goal.returns-clause-answered
returns-clause-answered g c =
    let z = c.args.store.now in let s = c.args.seat.now in let label = c.args.label.now in
    let h : HoldingsState = record { txn = c.held.inside.txn; snapshots = c.held.inside.snapshots.items } in
    let has : Holds z s h = subst (Holds z s) (sym c.held.view_is) c.requires in
    let x : HeldSnapshot = record { label = c.in_ok-label.label; snapshot = c.in_ok-snapshot.snapshot } in
    let free : refuses_label (map labelled h.snapshots) label ≡ None = subst (λ (y : HoldingsState). refuses_label (map labelled y.snapshots) label ≡ None) (sym c.held.view_is) (sym (c.in_ok-reply.ensures {u = tt}) ∙ c.in_default.is) in
    rw (← c.held.view_is, c.push_reserved.ensures.items, c.reserve.ensures.items, c.number-number.ensures)
    (snapped_there z s c.snapshot.new.seat h x label (c.in_ok-label.ensures {u = tt}) free c.in_ok-snapshot.ensures.registered c.in_ok-snapshot.ensures.number)

pub returns-in-Some-clause-published : goal.returns-in-Some-clause-published
returns-in-Some-clause-published g c =
    let snapshots = (client_of c.args.held.now).snapshots in let label = c.args.label.now in
    label_names c.args.store.now c.args.seat.now c.args.seat.now label (is_some (number_of snapshots label)) (nat_le MOST_SNAPSHOTS (length snapshots)) c.in-Some.reply (sym (c.in_ok-reply.ensures {u = tt}) ∙ c.in-Some.is)

pub returns-clause-published : goal.returns-clause-published
returns-clause-published g c =
    let t = c.snapshot.new.seat in let taken = c.in_ok-snapshot.ensures.taken in
    record { snapshot = c.in_ok-snapshot.snapshot; history = t.knows.participant.seen; taken = (taken.0, taken.1); number = sym c.number-number.ensures; seen = whole t.knows.participant.seen }

pub returns-in_err-reply-clause-err : goal.returns-in_err-reply-clause-err
returns-in_err-reply-clause-err g c = let z = c.args.store.now in let s = c.args.seat.now in kept_breaks z s s (command.Snap c.args.label.now) c.from_residual.result (client_of c.args.held.now) (keeps_at_once z s c.requires.txn.free)

pub returns-in_err-label-clause-err : goal.returns-in_err-label-clause-err
returns-in_err-label-clause-err g c = let z = c.args.store.now in let s = c.args.seat.now in kept_breaks z s s (command.Snap c.args.label.now) c.from_residual-in_err-label.result (client_of c.args.held.now) (keeps_at_once z s c.requires.txn.free)

pub returns-in_err-reserve-clause-err : goal.returns-in_err-reserve-clause-err
returns-in_err-reserve-clause-err g c = let z = c.args.store.now in let s = c.args.seat.now in kept_breaks z s s (command.Snap c.args.label.now) c.from_residual-in_err-reserve.result (client_of c.args.held.now) (keeps_at_once z s c.requires.txn.free)

pub returns-in_err-snapshot-clause-err : goal.returns-in_err-snapshot-clause-err
returns-in_err-snapshot-clause-err g c = kept_breaks c.args.store.now c.args.seat.now c.snapshot.new.seat (command.Snap c.args.label.now) c.from_residual-in_err-snapshot.result (client_of c.args.held.now) c.in_err-snapshot.ensures.refused
