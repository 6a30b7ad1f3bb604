use Rattle.std.proofs.Common.{refl, subst, ◌∙◌}
use Rattle.wp_read.specs.Registers.{unregistering}
use Rattle.wp_open_txns.specs.Calls.{without_transaction}
use Rattle.wp_open_txns.specs.Turns.{IsApartFrom}
use Rattle.wp_client.specs.declared.holdings.HeldTxn.{HeldTxn}
use Rattle.wp_client.specs.declared.holdings.HeldTxn.TheVariants as held
use Rattle.wp_client.specs.Ends.{LetsGo}
use Rattle.wp_client.specs.Holdings.{HoldsTxn}
use Rattle.wp_client.proofs.GivenUp.{given_up_open, given_up_prepared}
use Rattle.wp_client.proofs.Released.{lets_nothing_go, txn_let_go}
use Rattle.wp_client.proofs.ending.let_txn_go.Goals as goal

pub abandon-requires-clause-open : goal.abandon-requires-clause-open
abandon-requires-clause-open g c = (rw c.in-Open.is at c.requires).has

pub leave-requires-clause-prepared : goal.leave-requires-clause-prepared
leave-requires-clause-prepared g c = (rw c.in-Prepared.is at c.requires).has

pub returns-in-Idle : goal.returns-in-Idle
returns-in-Idle g c = λ h is. let z = c.args.store.now in let s = c.args.seat.now in
    subst (λ (x : HeldTxn). LetsGo z s s h (record h { txn = x })) (is ∙ c.in-Idle.is) (lets_nothing_go z s h)

pub returns-in-Open : goal.returns-in-Open
returns-in-Open g c = λ h is.
    let z = c.args.store.now in let s = c.args.seat.now in let t = c.abandon.new.seat in let begun = c.in-Open.open in
    let has : HoldsTxn z s (held.Open begun) = subst (HoldsTxn z s) c.in-Open.is c.requires in
    txn_let_go (IsApartFrom begun.name) z s t (without_transaction begun.name (unregistering begun.pin s.knows.participant)) refl refl refl (held.Open begun) c.abandon.ensures.gives_up (given_up_open z s t begun has c.abandon.ensures.gives_up) h (is ∙ c.in-Open.is)

pub returns-in-Prepared : goal.returns-in-Prepared
returns-in-Prepared g c = λ h is.
    let z = c.args.store.now in let s = c.args.seat.now in let t = c.leave.new.seat in let prepared = c.in-Prepared.prepared in
    let has : HoldsTxn z s (held.Prepared prepared) = subst (HoldsTxn z s) c.in-Prepared.is c.requires in
    txn_let_go (IsApartFrom prepared.name) z s t (without_transaction prepared.name s.knows.participant) refl refl refl (held.Prepared prepared) c.leave.ensures.gives_up (given_up_prepared z s t prepared has c.leave.ensures.gives_up) h (is ∙ c.in-Prepared.is)
