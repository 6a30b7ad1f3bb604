use Rattle.std.proofs.Common.{◌≡◌, List, [], sym, ap, subst, ◌∙◌, None, Err}
use Rattle.std.specs.Prelude.{ℕ, Result}
use Rattle.std.specs.FinMap as finite
use Rattle.std.proofs.lemmas.Result.{err_from_is_err_and}
use Rattle.wp_model.specs.declared.change.Change.{Change}
use Rattle.wp_shared.proofs.Onward.{continues_none, holds_alone}
use Rattle.wp_open_txns.specs.declared.error.TxnError.{TxnError}
use Rattle.wp_open_txns.specs.Calls.{Begins}
use Rattle.wp_open_txns.specs.Txn.{OpenState, HasOpen}
use Rattle.wp_open_txns.proofs.GoesOn.{lent_as, begun, not_begun, not_live, locks_found}
use Rattle.wp_open_txns.proofs.names.begin.Goals as goal

pub claim-outcome-requires-clause-seat : goal.claim-outcome-requires-clause-seat
claim-outcome-requires-clause-seat g c = holds_alone c.requires (lent_as c.deref_mut.ensures.value c.take_turn-tables.ensures.taken)

pub give_turn-requires-clause-holds : goal.give_turn-requires-clause-holds
give_turn-requires-clause-holds g c = ([], [], c.claim-outcome.ensures.holds)

pub returns-in_err-outcome : goal.returns-in_err-outcome
returns-in_err-outcome g c = let p = err_from_is_err_and c.from_residual-in_err-outcome.result c.from_residual-in_err-outcome.ensures.1 in let done = c.claim-outcome.ensures in
    subst (λ (r : Result OpenState TxnError). Begins c.args.store.now c.args.seat.now c.args.name r c.give_turn.new.seat) (sym (p.1 ∙ ap Err p.2))
    (not_begun c.args.store.now c.args.seat.now c.deref_mut.result.now _ (lent_as c.deref_mut.ensures.value c.take_turn-tables.ensures.taken) c.args.name c.in_err-outcome.field-0.0 _ _ c.give_turn.new.seat (c.in_err-outcome.ensures {u = tt}).answered (c.give_turn.ensures [] [] done.holds))

pub returns : goal.returns
returns g c =
    let z = c.args.store.now in let old = c.args.seat.now in let t = c.deref_mut.result.now in let k = (lent_as c.deref_mut.ensures.value c.take_turn-tables.ensures.taken) in let claimed = (c.in_ok-outcome.ensures {u = tt}).answered in
    let b = begun z old t _ k c.args.name _ c.give_turn.new.seat claimed.1 (c.give_turn.ensures [] [] c.claim-outcome.ensures.holds) in
    let begun_with : List Change → List (List ℕ) → OpenState = λ batch locked. record { name = c.args.name; batch = batch; locked = locked; pin = None } in
    let is = ap (λ (batch : List Change). begun_with batch c.new-2.result.items) c.new.ensures ∙ ap (begun_with []) c.new-2.ensures.items in
    (is, subst (HasOpen c.give_turn.new.seat) (sym is) b.0, b.1, not_live z old _ t c.args.name k claimed.2, locks_found z old _ t (λ l. finite.get l.names c.args.name ≡ None) k claimed.2)

pub returns-in_err-claimed : goal.returns-in_err-claimed
returns-in_err-claimed g c =
    let p = err_from_is_err_and c.from_residual.result c.from_residual.ensures.1 in
    subst (λ (r : Result OpenState TxnError). Begins c.args.store.now c.args.seat.now c.args.name r c.args.seat.now) (sym (p.1 ∙ ap Err p.2)) (continues_none c.args.store.now c.args.seat.now c.requires)

pub returns-in_err-client : goal.returns-in_err-client
returns-in_err-client g c =
    let p = err_from_is_err_and c.from_residual-in_err-client.result c.from_residual-in_err-client.ensures.1 in
    subst (λ (r : Result OpenState TxnError). Begins c.args.store.now c.args.seat.now c.args.name r c.args.seat.now) (sym (p.1 ∙ ap Err p.2)) (continues_none c.args.store.now c.args.seat.now c.requires)
