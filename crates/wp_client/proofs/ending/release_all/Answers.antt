use Rattle.std.proofs.Common.{◌≡◌, List, vec_len, subst, arith}
use Rattle.wp_client.specs.declared.holdings.HeldSnapshot.{HeldSnapshot}
use Rattle.wp_client.specs.Ends.{LetsGo}
use Rattle.wp_client.specs.Holdings.{HoldingsState}
use Rattle.wp_client.proofs.Released.{lets_nothing_go, last_registered, last_let_go, none_left_of}
use Rattle.wp_client.proofs.ending.release_all.Goals as goal

pub loop-last-init : goal.loop-last-init
loop-last-init g c = λ txn has. lets_nothing_go c.args.store.now c.args.seat.now (record { txn = txn; snapshots = c.args.snapshots.items })

pub release-requires-clause-free : goal.release-requires-clause-free
release-requires-clause-free g c = ((c.loop-last.invariant c.requires.0 c.requires.1).holds c.requires.1).txn.free

pub release-requires-clause-registered : goal.release-requires-clause-registered
release-requires-clause-registered g c =
    let z = c.args.store.now in let s = c.args.seat.now in let txn = c.requires.0 in let has = c.requires.1 in let h : HoldingsState = record { txn = txn; snapshots = c.args.snapshots.items } in
    last_registered z s h c.loop-last.seat txn c.pop.new.self.items c.in-Some.last
    (subst (λ (xs : List HeldSnapshot). LetsGo z s c.loop-last.seat h (record { txn = txn; snapshots = xs })) c.in-Some.ensures.items (c.loop-last.invariant txn has)) has

pub loop-last-preserved : goal.loop-last-preserved
loop-last-preserved g c = λ txn has.
    let z = c.args.store.now in let s = c.args.seat.now in let h : HoldingsState = record { txn = txn; snapshots = c.args.snapshots.items } in let gone = c.release.ensures in
    last_let_go z s h c.loop-last.seat txn c.pop.new.self.items c.in-Some.last
    (subst (λ (xs : List HeldSnapshot). LetsGo z s c.loop-last.seat h (record { txn = txn; snapshots = xs })) c.in-Some.ensures.items (c.loop-last.invariant txn has)) has
    c.release.new.seat (record { front = gone.0; back = gone.1; were = gone.2; goes_on = gone.4 })

pub returns : goal.returns
returns g c = λ txn has.
    let z = c.args.store.now in let s = c.args.seat.now in let h : HoldingsState = record { txn = txn; snapshots = c.args.snapshots.items } in
    let none : vec_len c.loop-last.snapshots ≡ 0 = c.in_default.ensures.cases.0 in
    subst (λ (xs : List HeldSnapshot). LetsGo z s c.loop-last.seat h (record { txn = txn; snapshots = xs })) (none_left_of c.loop-last.snapshots.items (omega (arith, none))) (c.loop-last.invariant txn has)
