use Rattle.std.proofs.Common.{ℕ, List, refl, sym, subst, arith}
use Rattle.wp_text.specs.declared.reply.Reply.TheVariants as reply
use Rattle.wp_text.specs.declared.script.Command.TheVariants as command
use Rattle.wp_client.specs.Answers.{IsAnswered}
use Rattle.wp_client.specs.Holdings.{HoldingsState, client_of, Holds}
use Rattle.wp_client.specs.Replies.{IsPlace}
use Rattle.wp_client.proofs.Places.{place_below, found_registered, read_at}
use Rattle.wp_client.proofs.Reading.{keeps_at_once, unknown_answers}
use Rattle.wp_client.proofs.reads.get_at.Goals as goal

pub returns-in_default-clause-answered : goal.returns-in_default-clause-answered
returns-in_default-clause-answered g c =
    let z = c.args.store.now in let s = c.args.seat.now in let label = c.args.label.now in let h = c.args.held.now in
    subst (λ (l : List ℕ). IsAnswered z s s (client_of h) (client_of h) (command.GetAt c.args.key.now label) (reply.UnknownSnapshot l)) (sym (c.in_ok-copy.ensures {u = tt}))
    (unknown_answers z s s (client_of h) c.args.key.now label (keeps_at_once z s c.requires.txn.free) refl c.in_default.ensures)

pub index-requires : goal.index-requires
index-requires g c =
    let z = c.args.store.now in let s = c.args.seat.now in let label = c.args.label.now in
    let h : HoldingsState = record { txn = c.held.inside.txn; snapshots = c.held.inside.snapshots.items } in
    let has : Holds z s h = subst (Holds z s) (sym c.held.view_is) c.requires in
    let at : IsPlace h.snapshots label c.in-Some.i = subst (λ (x : HoldingsState). IsPlace x.snapshots label c.in-Some.i) (sym c.held.view_is) (c.in-Some.ensures {u = tt}) in
    let low = place_below z s h label c.in-Some.i at in omega (arith, low)

pub get-requires-clause-registered : goal.get-requires-clause-registered
get-requires-clause-registered g c =
    let z = c.args.store.now in let s = c.args.seat.now in let label = c.args.label.now in
    let h : HoldingsState = record { txn = c.held.inside.txn; snapshots = c.held.inside.snapshots.items } in
    let has : Holds z s h = subst (Holds z s) (sym c.held.view_is) c.requires in
    let at : IsPlace h.snapshots label c.in-Some.i = subst (λ (x : HoldingsState). IsPlace x.snapshots label c.in-Some.i) (sym c.held.view_is) (c.in-Some.ensures {u = tt}) in
    found_registered z s h label c.in-Some.i at c.index.result.now c.index.ensures has

pub returns-clause-answered : goal.returns-clause-answered
returns-clause-answered g c =
    let z = c.args.store.now in let s = c.args.seat.now in let label = c.args.label.now in
    let h : HoldingsState = record { txn = c.held.inside.txn; snapshots = c.held.inside.snapshots.items } in
    let has : Holds z s h = subst (Holds z s) (sym c.held.view_is) c.requires in
    let at : IsPlace h.snapshots label c.in-Some.i = subst (λ (x : HoldingsState). IsPlace x.snapshots label c.in-Some.i) (sym c.held.view_is) (c.in-Some.ensures {u = tt}) in
    rw (← c.held.view_is, c.read_reply.ensures, c.number.ensures)
    (read_at z s h label c.in-Some.i at c.index.result.now c.index.ensures c.get.new.seat has c.args.key.now c.in_ok-value.value c.get.ensures.continues (c.in_ok-value.ensures.value))
