use Rattle.std.proofs.Common.{[], refl, sym, subst}
use Rattle.wp_client.specs.Ends.{LetsGo}
use Rattle.wp_client.specs.Holdings.{HoldingsState, no_holdings, Holds}
use Rattle.wp_client.proofs.Released.{all_let_go}
use Rattle.wp_client.proofs.ending.end.Goals as goal

pub release_all-requires : goal.release_all-requires
release_all-requires g c = (c.held.inside.txn, subst (Holds c.args.store.now c.args.seat.now) (sym c.held.view_is) c.requires)

pub let_txn_go-requires : goal.let_txn_go-requires
let_txn_go-requires g c =
    let has = subst (Holds c.args.store.now c.args.seat.now) (sym c.held.view_is) c.requires in
    ((c.release_all.ensures c.held.inside.txn has).holds has).txn

pub returns : goal.returns
returns g c =
    let has = subst (Holds c.args.store.now c.args.seat.now) (sym c.held.view_is) c.requires in
    let txn = c.held.inside.txn in let h : HoldingsState = record { txn = txn; snapshots = c.held.inside.snapshots.items } in
    subst (λ (x : HoldingsState). LetsGo c.args.store.now c.args.seat.now c.let_txn_go.new.seat x no_holdings) c.held.view_is
    (all_let_go c.args.store.now c.args.seat.now c.release_all.new.seat c.let_txn_go.new.seat h (c.release_all.ensures txn has) (c.let_txn_go.ensures (record h { snapshots = [] }) refl))
