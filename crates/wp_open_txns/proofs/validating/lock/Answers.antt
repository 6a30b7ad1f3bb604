use Rattle.std.proofs.Common.{◌≡◌, ◌∷◌, ◌++◌, inl, ℕ, false, List, [], refl, sym, ap, subst, ◌∙◌, ◌||◌, Err, Ok}
use Rattle.std.specs.Prelude.{Result}
use Rattle.std.proofs.lemmas.Result.{err_from_is_err_and}
use Rattle.wp_core.specs.Sound.Views.{OwnsKey}
use Rattle.wp_shared.proofs.Onward.{continues_none}
use Rattle.wp_open_txns.specs.declared.error.TxnError.{TxnError}
use Rattle.wp_open_txns.specs.declared.error.TxnError.TheVariants.{Memory}
use Rattle.wp_open_txns.specs.declared.validating.Locked.{Locked}
use Rattle.wp_open_txns.specs.Calls.{LocksForRead}
use Rattle.wp_open_txns.specs.Keys.{FreesKey, TakesKey}
use Rattle.wp_open_txns.specs.Txn.{OpenState, has_key}
use Rattle.wp_open_txns.proofs.Adding.{open_kept, not_full}
use Rattle.wp_open_txns.proofs.KeyTaken.{owns_then, lock_again, lock_new, not_locked, not_read}
use Rattle.wp_open_txns.proofs.validating.lock.Goals as goal

pub returns-in_err-value : goal.returns-in_err-value
returns-in_err-value g c =
    let z = c.args.store.now in let old = c.args.seat.now in let txn = c.args.txn.now in let new = c.get_now.new.seat in
    let p = err_from_is_err_and c.from_residual.result c.from_residual.ensures.1 in let kept = (c.in_err-value.ensures {u = tt}).refused in
    subst (λ (r : Result Locked TxnError). LocksForRead z old txn c.args.key r new txn) (sym (p.1 ∙ ap Err p.2)) (refl, open_kept z old new txn kept c.requires.open, sym c.has_change.ensures ∙ c.if-has_change.false, inl kept)

pub returns-then-has_locked : goal.returns-then-has_locked
returns-then-has_locked g c =
    lock_again c.args.store.now c.args.seat.now c.requires.free c.args.txn.now c.args.key _ _ c.get_now.new.seat c.requires.open (sym c.has_change.ensures ∙ c.if-has_change.false) (sym c.has_locked.ensures ∙ c.if-has_locked.true) (c.in_ok-value.ensures {u = tt}).read

pub returns-then-has_no_room : goal.returns-then-has_no_room
returns-then-has_no_room g c =
    (sym c.has_change.ensures ∙ c.if-has_change.false, (refl, c.requires.open, c.has_no_room.ensures.full c.if-has_no_room.true, continues_none c.args.store.now c.args.seat.now c.requires.free))

pub take_key-requires-clause-none : goal.take_key-requires-clause-none
take_key-requires-clause-none g c =
    let with_keys : List (List ℕ) → OpenState = λ keys. record { name = c.txn.inside.name; batch = c.txn.inside.batch; locked = keys; pin = c.txn.inside.pin } in
    let same = ap with_keys c.reserve.ensures.items ∙ c.txn.view_is in let no_change = sym c.has_change.ensures ∙ c.if-has_change.false in let other = sym c.has_locked.ensures ∙ c.if-has_locked.false in
    subst (λ (x : OpenState). has_key x.batch x.locked c.args.key ≡ false) (sym same) (λ i. no_change i || other i)

pub returns-in_err-take_key : goal.returns-in_err-take_key
returns-in_err-take_key g c =
    let z = c.args.store.now in let old = c.args.seat.now in let txn = c.args.txn.now in let new = c.take_key.new.seat in let key = c.args.key in let reason = c.in_err-take_key.field-0.0 in
    let with_keys : List (List ℕ) → OpenState = λ keys. record { name = c.txn.inside.name; batch = c.txn.inside.batch; locked = keys; pin = c.txn.inside.pin } in
    let same = ap with_keys c.reserve.ensures.items ∙ c.txn.view_is in let no_change = sym c.has_change.ensures ∙ c.if-has_change.false in let other = sym c.has_locked.ensures ∙ c.if-has_locked.false in
    let p = err_from_is_err_and c.from_residual-in_err-take_key.result c.from_residual-in_err-take_key.ensures.1 in
    let held = subst (λ (x : OpenState). TakesKey z old x key (Err reason) new) same (c.in_err-take_key.ensures {u = tt}) in
    subst (λ (r : Result Locked TxnError). LocksForRead z old txn key r new (with_keys c.reserve.new.self.items)) (sym (p.1 ∙ ap Err p.2))
    (subst (λ (left : OpenState). LocksForRead z old txn key (Err reason) new left) (sym same) (not_locked z old txn key new reason (not_full txn key (c.has_no_room.ensures.room c.if-has_no_room.false)) no_change other c.requires.open held))

pub read_taken-requires-clause-has : goal.read_taken-requires-clause-has
read_taken-requires-clause-has g c =
    let z = c.args.store.now in let old = c.args.seat.now in let txn = c.args.txn.now in let s = c.take_key.new.seat in let key = c.args.key in let h = c.requires.open in
    let with_keys : List (List ℕ) → OpenState = λ keys. record { name = c.txn.inside.name; batch = c.txn.inside.batch; locked = keys; pin = c.txn.inside.pin } in
    let same = ap with_keys c.reserve.ensures.items ∙ c.txn.view_is in let no_change = sym c.has_change.ensures ∙ c.if-has_change.false in let other = sym c.has_locked.ensures ∙ c.if-has_locked.false in
    let took = subst (λ (x : OpenState). TakesKey z old x key (Ok tt) s) same (c.in_ok-take_key.ensures {u = tt}) in
    subst (λ (x : OpenState). OwnsKey s.knows.participant x.name key) (sym c.txn.view_is) (owns_then z old txn.name key h.transaction h.has (h.keys key ∙ (λ i. no_change i || other i)) s took.0)

pub returns-in_err-value-2 : goal.returns-in_err-value-2
returns-in_err-value-2 g c =
    let z = c.args.store.now in let old = c.args.seat.now in let txn = c.args.txn.now in let s = c.take_key.new.seat in let new = c.read_taken.new.seat in let key = c.args.key in
    let with_keys : List (List ℕ) → OpenState = λ keys. record { name = c.txn.inside.name; batch = c.txn.inside.batch; locked = keys; pin = c.txn.inside.pin } in
    let same = ap with_keys c.reserve.ensures.items ∙ c.txn.view_is in let no_change = sym c.has_change.ensures ∙ c.if-has_change.false in let other = sym c.has_locked.ensures ∙ c.if-has_locked.false in
    let p = err_from_is_err_and c.from_residual-in_err-value-2.result c.from_residual-in_err-value-2.ensures.1 in
    let took = subst (λ (x : OpenState). TakesKey z old x key (Ok tt) s) same (c.in_ok-take_key.ensures {u = tt}) in
    let freed = subst (λ (x : OpenState). FreesKey z s new x.name key) c.txn.view_is (c.in_err-value-2.ensures {u = tt}).refused in
    subst (λ (r : Result Locked TxnError). LocksForRead z old txn key r new (with_keys c.reserve.new.self.items)) (sym (p.1 ∙ ap Err p.2))
    (subst (λ (left : OpenState). LocksForRead z old txn key (Err Memory) new left) (sym same) (not_read z old s new txn key c.requires.open no_change other took freed))

pub returns : goal.returns
returns g c =
    let z = c.args.store.now in let old = c.args.seat.now in let txn = c.args.txn.now in let s = c.take_key.new.seat in let new = c.read_taken.new.seat in let key = c.args.key in
    let with_keys : List (List ℕ) → OpenState = λ keys. record { name = c.txn.inside.name; batch = c.txn.inside.batch; locked = keys; pin = c.txn.inside.pin } in
    let same = ap with_keys c.reserve.ensures.items ∙ c.txn.view_is in let no_change = sym c.has_change.ensures ∙ c.if-has_change.false in let other = sym c.has_locked.ensures ∙ c.if-has_locked.false in
    let took = subst (λ (x : OpenState). TakesKey z old x key (Ok tt) s) same (c.in_ok-take_key.ensures {u = tt}) in
    let left_is = ap with_keys c.push_reserved.ensures.items ∙ ap (λ (x : OpenState). record x { locked = x.locked ++ key ∷ [] }) same in
    lock_new z old c.requires.free txn key _ _ new c.requires.open no_change other (c.has_no_room.ensures.room c.if-has_no_room.false (λ i. no_change i || other i)) s took (c.in_ok-value-2.ensures {u = tt}).read _ left_is
