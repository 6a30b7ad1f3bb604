use Rattle.std.proofs.Common.{◌≡◌, ℕ, refl, sym, ap, subst, ◌∙◌, Option, Err, Ok, Some}
use Rattle.std.specs.Prelude.{Result}
use Rattle.std.proofs.lemmas.Result.{err_from_is_err_and}
use Rattle.wp_core.specs.Reading.{Registration}
use Rattle.wp_shared.specs.Calls.{Continues}
use Rattle.wp_read.specs.Registers.{unregistering}
use Rattle.wp_open_txns.specs.declared.error.TxnError.{TxnError}
use Rattle.wp_open_txns.specs.Calls.{Pins}
use Rattle.wp_open_txns.specs.Txn.{OpenState}
use Rattle.wp_open_txns.proofs.Adding.{open_kept}
use Rattle.wp_open_txns.proofs.Pinned.{pinned_then, pins}
use Rattle.wp_open_txns.proofs.pinning.pin.Goals as goal

pub returns-in_err-taken : goal.returns-in_err-taken
returns-in_err-taken g c =
    let p = err_from_is_err_and c.from_residual.result c.from_residual.ensures.1 in let z = c.args.store.now in let old = c.args.seat.now in let new = c.snapshot.new.seat in
    let kept = (c.in_err-taken.ensures {u = tt}).refused in
    subst (λ (r : Result ℕ TxnError). Pins z old c.args.txn.now r new c.args.txn.now) (sym (p.1 ∙ ap Err p.2)) (refl, open_kept z old new c.args.txn.now kept c.requires.open, kept)

pub unpin-requires-clause-registered : goal.unpin-requires-clause-registered
unpin-requires-clause-registered g c q is =
    let before = c.replace-before.ensures.value ∙ ap (λ (x : OpenState). x.pin) c.txn.view_is in
    pinned_then c.args.store.now c.args.seat.now c.snapshot.new.seat c.args.txn.now c.in_ok-taken.taken c.requires.open (c.in_ok-taken.ensures {u = tt}).registered q (sym before ∙ is)

pub returns : goal.returns
returns g c =
    let z = c.args.store.now in let old = c.args.seat.now in let txn = c.args.txn.now in let s = c.snapshot.new.seat in let new = c.unpin.new.seat in let r = c.in_ok-taken.taken in let took = c.in_ok-taken.ensures {u = tt} in
    let before = c.replace-before.ensures.value ∙ ap (λ (x : OpenState). x.pin) c.txn.view_is in
    let gone = subst (λ (pin : Option Registration). Continues z s new (unregistering pin s.knows.participant)) before c.unpin.ensures.goes_on in
    let exact = subst (λ (pin : Option Registration). new.knows.participant ≡ unregistering pin s.knows.participant) before c.unpin.ensures.same in
    let with_pin : Option Registration → OpenState = λ pin. record { name = c.txn.inside.name; batch = c.txn.inside.batch; locked = c.txn.inside.locked.items; pin = pin } in
    let left_is = ap with_pin c.replace-before.ensures.after ∙ ap (λ (x : OpenState). record x { pin = Some r }) c.txn.view_is in
    subst (λ (left : OpenState). Pins z old txn (Ok c.number-number.result) new left) (sym left_is)
    (subst (λ (n : ℕ). Pins z old txn (Ok n) new (record txn { pin = Some r })) (sym c.number-number.ensures) (pins z old s txn r c.requires.open took.registered new took.number gone exact took.taken))
