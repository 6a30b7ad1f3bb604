use Rattle.std.proofs.Common.{◌≡◌, ℕ, List, map, refl, sym, subst, arith}
use Rattle.wp_text.specs.declared.reply.Reply.TheVariants as reply
use Rattle.wp_text.specs.declared.script.Command.TheVariants as command
use Rattle.wp_client.specs.declared.holdings.HeldTxn.{HeldTxn}
use Rattle.wp_client.specs.declared.holdings.HeldTxn.TheVariants as held
use Rattle.wp_client.specs.Answers.{IsAnswered}
use Rattle.wp_client.specs.Holdings.{HoldingsState, labelled, txn_of, client_of, Holds}
use Rattle.wp_client.specs.Replies.{IsPlace}
use Rattle.wp_client.proofs.Clients.{having}
use Rattle.wp_client.proofs.Places.{place_below, found_registered, scanned_at}
use Rattle.wp_client.proofs.Ranges.{unknown_scanned}
use Rattle.wp_client.proofs.Reading.{keeps_at_once}
use Rattle.wp_client.proofs.scanning.scan_labelled.Goals as goal

pub returns-in_default-clause-answered : goal.returns-in_default-clause-answered
returns-in_default-clause-answered g c =
    let z = c.args.store.now in let s = c.args.seat.now in let label = c.args.label.now in let h = c.args.held.now in let from = c.args.from.now in let to = c.args.to.now in
    let labels = map labelled h.snapshots in
    subst (λ (l : List ℕ). IsAnswered z s s (client_of h) (client_of h) (command.ScanAt from to label) (reply.UnknownSnapshot l)) (sym (c.in_ok-copy.ensures {u = tt}))
    (subst (λ (t : HeldTxn). IsAnswered z s s (having (txn_of t) labels) (having (txn_of t) labels) (command.ScanAt from to label) (reply.UnknownSnapshot label)) (sym c.requires.idle)
    (unknown_scanned z s s from to label labels (keeps_at_once z s c.requires.holds.txn.free) refl c.in_default.ensures))

pub index-requires : goal.index-requires
index-requires g c =
    let z = c.args.store.now in let s = c.args.seat.now in let label = c.args.label.now in
    let h : HoldingsState = record { txn = c.held.inside.txn; snapshots = c.held.inside.snapshots.items } in
    let has : Holds z s h = subst (Holds z s) (sym c.held.view_is) c.requires.holds in
    let at : IsPlace h.snapshots label c.in-Some.i = subst (λ (x : HoldingsState). IsPlace x.snapshots label c.in-Some.i) (sym c.held.view_is) (c.in-Some.ensures {u = tt}) in
    let low = place_below z s h label c.in-Some.i at in omega (arith, low)

pub all_rows-requires-clause-registered : goal.all_rows-requires-clause-registered
all_rows-requires-clause-registered g c =
    let z = c.args.store.now in let s = c.args.seat.now in let label = c.args.label.now in
    let h : HoldingsState = record { txn = c.held.inside.txn; snapshots = c.held.inside.snapshots.items } in
    let has : Holds z s h = subst (Holds z s) (sym c.held.view_is) c.requires.holds in
    let at : IsPlace h.snapshots label c.in-Some.i = subst (λ (x : HoldingsState). IsPlace x.snapshots label c.in-Some.i) (sym c.held.view_is) (c.in-Some.ensures {u = tt}) in
    found_registered z s h label c.in-Some.i at c.index.result.now c.index.ensures has

pub returns-clause-answered : goal.returns-clause-answered
returns-clause-answered g c =
    let z = c.args.store.now in let s = c.args.seat.now in let label = c.args.label.now in
    let h : HoldingsState = record { txn = c.held.inside.txn; snapshots = c.held.inside.snapshots.items } in
    let has : Holds z s h = subst (Holds z s) (sym c.held.view_is) c.requires.holds in
    let idle : h.txn ≡ held.Idle = subst (λ (x : HoldingsState). x.txn ≡ held.Idle) (sym c.held.view_is) c.requires.idle in
    let at : IsPlace h.snapshots label c.in-Some.i = subst (λ (x : HoldingsState). IsPlace x.snapshots label c.in-Some.i) (sym c.held.view_is) (c.in-Some.ensures {u = tt}) in
    rw (← c.held.view_is, c.number.ensures)
    (scanned_at z s h label c.in-Some.i at c.index.result.now c.index.ensures c.all_rows.new.seat has c.args.from.now c.args.to.now c.in_ok-pairs.pairs idle c.all_rows.ensures.continues (c.in_ok-pairs.ensures.rows))
