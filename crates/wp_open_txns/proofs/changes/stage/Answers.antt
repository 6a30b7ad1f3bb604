use Rattle.std.proofs.Common.{◌≡◌, ◌+◌, ◌<◌, false, List, length, sym, ap, subst, ◌∙◌, Err, Ok, is_some, not, filter}
use Rattle.std.specs.Prelude.{Result, ℕ}
use Rattle.std.specs.FinMap as finite
use Rattle.std.specs.Str.{bytes_eq}
use Rattle.std.proofs.lemmas.Result.{err_from_is_err_and}
use Rattle.wp_model.specs.declared.batch.TheConstants.{MOST_KEYS}
use Rattle.wp_model.specs.Batch.{key_of, with_change}
use Rattle.wp_model.specs.History.{is_changed}
use Rattle.wp_model.specs.declared.change.Change.{Change}
use Rattle.wp_core.specs.World.{Participant}
use Rattle.wp_shared.specs.Notes.{seat_of}
use Rattle.wp_open_txns.specs.declared.error.TxnError.{TxnError}
use Rattle.wp_open_txns.specs.Actors.{with_batch}
use Rattle.wp_open_txns.specs.Calls.{locking, with_changed, Changes}
use Rattle.wp_open_txns.specs.Keys.{ComesTo}
use Rattle.wp_open_txns.specs.Txn.{OpenState, has_key}
use Rattle.wp_open_txns.proofs.Keys.{room_for_change}
use Rattle.wp_open_txns.proofs.Adding.{locking_has, not_full, staged, key_refused}
use Rattle.wp_open_txns.proofs.changes.stage.Goals as goal

pub with_change-requires : goal.with_change-requires
with_change-requires g c none =
    let txn = c.args.txn.now in let key_is = c.in_ok-key.ensures {u = tt} ∙ c.key.ensures in
    let room = subst (λ (key : List ℕ). has_key txn.batch txn.locked key ≡ false → length txn.batch + length txn.locked < MOST_KEYS) key_is (c.has_no_room.ensures.room c.if-has_no_room.false) in
    subst (λ (x : OpenState). is_changed x.batch (key_of c.args.change) ≡ false → length x.batch < MOST_KEYS) (sym c.txn.view_is) (room_for_change txn.batch txn.locked (key_of c.args.change) c.requires.open.few.few room) none

pub returns-in_err-come_to : goal.returns-in_err-come_to
returns-in_err-come_to g c =
    let p = err_from_is_err_and c.from_residual-in_err-come_to.result c.from_residual-in_err-come_to.ensures.1 in let z = c.args.store.now in let old = c.args.seat.now in let new = c.come_to.new.seat in let txn = c.args.txn.now in
    let key_is = c.in_ok-key.ensures {u = tt} ∙ c.key.ensures in let reason = c.in_err-come_to.field-0.0 in
    let room = subst (λ (key : List ℕ). has_key txn.batch txn.locked key ≡ false → length txn.batch + length txn.locked < MOST_KEYS) key_is (c.has_no_room.ensures.room c.if-has_no_room.false) in
    let comes = subst (λ (key : List ℕ). ComesTo z old txn key (Err reason) new) key_is (c.in_err-come_to.ensures {u = tt}) in
    subst (λ (r : Result (Unit {0}) TxnError). Changes z old txn c.args.change r new txn) (sym (p.1 ∙ ap Err p.2)) (key_refused z old txn (key_of c.args.change) new reason (not_full txn (key_of c.args.change) room) comes.0 c.requires.open comes.1)

pub set_batch-requires-clause-has : goal.set_batch-requires-clause-has
set_batch-requires-clause-has g c =
    let goes = (c.in_ok-come_to.ensures {u = tt}).0 in let txn = c.args.txn.now in let key = c.in_ok-key.key in let it = c.args.seat.now.knows.participant in
    ap (λ (p : Participant). is_some (finite.get p.transactions c.txn.inside.name)) goes.participant
    ∙ ap (λ (x : OpenState). is_some (finite.get (locking (has_key txn.batch txn.locked key) txn.name key it).transactions x.name)) c.txn.view_is
    ∙ locking_has c.args.store.now c.args.seat.now txn c.requires.open key (has_key txn.batch txn.locked key)

pub returns : goal.returns
returns g c =
    let z = c.args.store.now in let old = c.args.seat.now in let txn = c.args.txn.now in let change = c.args.change in let s = c.come_to.new.seat in
    let key_is = c.in_ok-key.ensures {u = tt} ∙ c.key.ensures in
    let room = subst (λ (key : List ℕ). has_key txn.batch txn.locked key ≡ false → length txn.batch + length txn.locked < MOST_KEYS) key_is (c.has_no_room.ensures.room c.if-has_no_room.false) in
    let comes = subst (λ (key : List ℕ). ComesTo z old txn key (Ok tt) s) key_is (c.in_ok-come_to.ensures {u = tt}) in
    let changed : c.in_ok-batch.batch ≡ with_change txn.batch change = (c.in_ok-batch.ensures {u = tt}).0 ∙ ap (λ (x : OpenState). with_change x.batch change) c.txn.view_is in
    let left : OpenState → List Change → List (List ℕ) → OpenState = λ x batch locked. record { name = x.name; batch = batch; locked = locked; pin = x.pin } in
    let but : OpenState → List ℕ → List (List ℕ) = λ x key. filter (λ other. not (bytes_eq other key)) x.locked in
    let left_is : left (record { name = c.txn.inside.name; batch = c.txn.inside.batch; locked = c.txn.inside.locked.items; pin = c.txn.inside.pin }) c.in_ok-batch.batch c.let_go.new.locked.items ≡ with_changed txn change =
    ap (left (record { name = c.txn.inside.name; batch = c.txn.inside.batch; locked = c.txn.inside.locked.items; pin = c.txn.inside.pin }) c.in_ok-batch.batch) c.let_go.ensures
    ∙ (λ i. left (c.txn.view_is i) (changed i) (but (c.txn.view_is i) (key_is i))) in
    staged z old s c.set_batch.new.seat txn _ change c.in_ok-batch.batch c.requires.open comes (c.set_batch.ensures ∙ ap (λ (x : OpenState). seat_of s (with_batch x.name c.in_ok-batch.batch s.knows)) c.txn.view_is) changed c.has_no_room.ensures.batch room left_is
