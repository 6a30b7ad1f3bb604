use Rattle.std.proofs.Common.{ℕ, List, refl, sym, subst, arith}
use Rattle.wp_text.specs.declared.reply.Reply.TheVariants as reply
use Rattle.wp_text.specs.declared.script.Command.TheVariants as command
use Rattle.wp_client.specs.Answers.{IsAnswered}
use Rattle.wp_client.specs.Holdings.{HoldingsState, client_of, Holds}
use Rattle.wp_client.specs.Replies.{IsPlace}
use Rattle.wp_client.proofs.Places.{place_below, found_registered, freed_there, freed_holds_there}
use Rattle.wp_client.proofs.Reading.{keeps_at_once}
use Rattle.wp_client.proofs.Snapping.{Released, unlabelled_answers}
use Rattle.wp_client.proofs.snapshots.free.Goals as goal

pub returns-in_default-clause-answered : goal.returns-in_default-clause-answered
returns-in_default-clause-answered g c =
    let z = c.args.store.now in let s = c.args.seat.now in let label = c.args.label.now in let h = c.args.held.now in
    subst (λ (l : List ℕ). IsAnswered z s s (client_of h) (client_of h) (command.Free label) (reply.UnknownSnapshot l)) (sym (c.in_ok-copy.ensures {u = tt}))
    (unlabelled_answers z s s (client_of h) label (keeps_at_once z s c.requires.txn.free) refl c.in_default.ensures)

pub remove-label-requires : goal.remove-label-requires
remove-label-requires g c =
    let z = c.args.store.now in let s = c.args.seat.now in let label = c.args.label.now in
    let h : HoldingsState = record { txn = c.held.inside.txn; snapshots = c.held.inside.snapshots.items } in
    let has : Holds z s h = subst (Holds z s) (sym c.held.view_is) c.requires in
    let at : IsPlace h.snapshots label c.in-Some.i = subst (λ (x : HoldingsState). IsPlace x.snapshots label c.in-Some.i) (sym c.held.view_is) (c.in-Some.ensures {u = tt}) in
    let low = place_below z s h label c.in-Some.i at in omega (arith, low)

pub release-requires-clause-registered : goal.release-requires-clause-registered
release-requires-clause-registered g c =
    let z = c.args.store.now in let s = c.args.seat.now in let label = c.args.label.now in
    let h : HoldingsState = record { txn = c.held.inside.txn; snapshots = c.held.inside.snapshots.items } in
    let has : Holds z s h = subst (Holds z s) (sym c.held.view_is) c.requires in
    let at : IsPlace h.snapshots label c.in-Some.i = subst (λ (x : HoldingsState). IsPlace x.snapshots label c.in-Some.i) (sym c.held.view_is) (c.in-Some.ensures {u = tt}) in
    found_registered z s h label c.in-Some.i at c.remove-label.result c.remove-label.ensures.value has

pub returns-clause-holds : goal.returns-clause-holds
returns-clause-holds g c =
    let z = c.args.store.now in let s = c.args.seat.now in let label = c.args.label.now in
    let h : HoldingsState = record { txn = c.held.inside.txn; snapshots = c.held.inside.snapshots.items } in
    let has : Holds z s h = subst (Holds z s) (sym c.held.view_is) c.requires in
    let at : IsPlace h.snapshots label c.in-Some.i = subst (λ (x : HoldingsState). IsPlace x.snapshots label c.in-Some.i) (sym c.held.view_is) (c.in-Some.ensures {u = tt}) in
    let gone = c.release.ensures in let t = c.release.new.seat in
    let out : Released z s t c.remove-label.result.snapshot = record { front = gone.0; back = gone.1; were = gone.2; goes_on = gone.4 } in
    rw c.remove-label.ensures.items (freed_holds_there z s h label c.in-Some.i at c.remove-label.result c.remove-label.ensures.value t has out)

pub returns-clause-answered : goal.returns-clause-answered
returns-clause-answered g c =
    let z = c.args.store.now in let s = c.args.seat.now in let label = c.args.label.now in
    let h : HoldingsState = record { txn = c.held.inside.txn; snapshots = c.held.inside.snapshots.items } in
    let has : Holds z s h = subst (Holds z s) (sym c.held.view_is) c.requires in
    let at : IsPlace h.snapshots label c.in-Some.i = subst (λ (x : HoldingsState). IsPlace x.snapshots label c.in-Some.i) (sym c.held.view_is) (c.in-Some.ensures {u = tt}) in
    let gone = c.release.ensures in let t = c.release.new.seat in
    let out : Released z s t c.remove-label.result.snapshot = record { front = gone.0; back = gone.1; were = gone.2; goes_on = gone.4 } in
    rw (← c.held.view_is, c.remove-label.ensures.items) (freed_there z s h label c.in-Some.i at c.remove-label.result c.remove-label.ensures.value t has out)
