use Rattle.std.proofs.Common.{List, [], ◌∷◌, refl, sym, ap, subst, ◌∙◌, Err}
use Rattle.std.proofs.lemmas.Result.{err_from_is_err_and}
use Rattle.std.specs.Prelude.{ℕ, Option, Result}
use Rattle.wp_model.specs.declared.change.Change.{Change}
use Rattle.wp_model.specs.declared.entry.Entry.{Entry}
use Rattle.wp_core.specs.States.{writes}
use Rattle.wp_model.specs.LockState.{LockState}
use Rattle.wp_locks.specs.Locks.{AreBeyond}
use Rattle.wp_parts.specs.Log.{LogState}
use Rattle.wp_shared.proofs.Onward.{continues_none, holds_alone, holds_two, holds_next}
use Rattle.wp_open_txns.specs.declared.error.TxnError.{TxnError}
use Rattle.wp_open_txns.specs.Calls.{Takes, TakesPrepared}
use Rattle.wp_open_txns.specs.Txn.{PreparedState}
use Rattle.wp_open_txns.specs.Under.{IsPrepareOf}
use Rattle.wp_open_txns.proofs.Taking.{gave_at_once, gave_both, beyond_of, not_taken, not_none, takes}
use Rattle.wp_open_txns.proofs.GoesOn.{lent_as}
use Rattle.wp_open_txns.proofs.prepared.take_prepared.Goals as goal

pub give_turn-requires-clause-holds : goal.give_turn-requires-clause-holds
give_turn-requires-clause-holds g c = ([], [], holds_alone c.requires c.take_turn-log.ensures.taken)

pub give_turn-requires-clause-knows : goal.give_turn-requires-clause-knows
give_turn-requires-clause-knows g c = c.take_turn-log.ensures.taken.knows.0

pub returns-in_default : goal.returns-in_default
returns-in_default g c = gave_at_once c.args.store.now c.args.seat.now _ _ c.take_turn-log.ensures.taken _ (c.give_turn.ensures [] [] (holds_alone c.requires c.take_turn-log.ensures.taken))

pub take_under-outcome-requires-clause-seat : goal.take_under-outcome-requires-clause-seat
take_under-outcome-requires-clause-seat g c = let d = c.take_turn-log.result.value.state in
    (writes d ∷ [], 0 ∷ [], holds_two (holds_alone c.requires c.take_turn-log.ensures.taken) (lent_as c.deref_mut.ensures.value c.take_turn-tables.ensures.taken))

pub give_turn-requires-in_default-keys_beyond-clause-holds : goal.give_turn-requires-in_default-keys_beyond-clause-holds
give_turn-requires-in_default-keys_beyond-clause-holds g c = let d = c.take_turn-log.result.value.state in
    (writes d ∷ [], 0 ∷ [], holds_two (holds_alone c.requires c.take_turn-log.ensures.taken) c.take_turn-tables.ensures.taken)

pub give_turn-requires-in_default-keys_beyond-2-clause-holds : goal.give_turn-requires-in_default-keys_beyond-2-clause-holds
give_turn-requires-in_default-keys_beyond-2-clause-holds g c =
    let d = c.take_turn-log.result.value.state in
    let held = holds_two (holds_alone c.requires c.take_turn-log.ensures.taken) c.take_turn-tables.ensures.taken in
    ([], [], holds_next held (c.give_turn-in_default-keys_beyond.ensures (writes d ∷ []) (0 ∷ []) held).goes)

pub give_turn-requires-in_default-keys_beyond-2-clause-knows : goal.give_turn-requires-in_default-keys_beyond-2-clause-knows
give_turn-requires-in_default-keys_beyond-2-clause-knows g c = c.take_turn-log.ensures.taken.knows.0

pub returns-in_default-keys_beyond : goal.returns-in_default-keys_beyond
returns-in_default-keys_beyond g c =
    let d = c.take_turn-log.result.value.state in let k2 = c.take_turn-tables.ensures.taken in
    let held = holds_two (holds_alone c.requires c.take_turn-log.ensures.taken) k2 in
    let gave = c.give_turn-in_default-keys_beyond.ensures (writes d ∷ []) (0 ∷ []) held in
    gave_both c.args.store.now c.args.seat.now d _ c.take_turn-log.ensures.taken _ _ k2 _ _ _ gave (c.give_turn-in_default-keys_beyond-2.ensures [] [] (holds_next held gave.goes)) refl

pub give_turn-requires-2-clause-holds : goal.give_turn-requires-2-clause-holds
give_turn-requires-2-clause-holds g c = let d = c.take_turn-log.result.value.state in
    (writes d ∷ [], 0 ∷ [], c.take_under-outcome.ensures.holds (writes d ∷ []) (0 ∷ []) (holds_two (holds_alone c.requires c.take_turn-log.ensures.taken) (lent_as c.deref_mut.ensures.value c.take_turn-tables.ensures.taken)))

pub give_turn-requires-3-clause-holds : goal.give_turn-requires-3-clause-holds
give_turn-requires-3-clause-holds g c =
    let d = c.take_turn-log.result.value.state in
    let held = c.take_under-outcome.ensures.holds (writes d ∷ []) (0 ∷ []) (holds_two (holds_alone c.requires c.take_turn-log.ensures.taken) (lent_as c.deref_mut.ensures.value c.take_turn-tables.ensures.taken)) in
    ([], [], holds_next held (c.give_turn-2.ensures (writes d ∷ []) (0 ∷ []) held).goes)

pub give_turn-requires-3-clause-knows : goal.give_turn-requires-3-clause-knows
give_turn-requires-3-clause-knows g c = c.take_turn-log.ensures.taken.knows.0

pub returns-in_err-outcome : goal.returns-in_err-outcome
returns-in_err-outcome g c =
    let z = c.args.store.now in let d = c.take_turn-log.result.value.state in let k = c.take_turn-log.ensures.taken in let k2 = lent_as c.deref_mut.ensures.value c.take_turn-tables.ensures.taken in
    let held = c.take_under-outcome.ensures.holds (writes d ∷ []) (0 ∷ []) (holds_two (holds_alone c.requires k) k2) in
    let gave = c.give_turn-2.ensures (writes d ∷ []) (0 ∷ []) held in
    let p = err_from_is_err_and c.from_residual-in_err-outcome.result c.from_residual-in_err-outcome.ensures.1 in
    subst (λ (r : Result PreparedState TxnError). TakesPrepared z c.args.seat.now c.args.name.now r c.give_turn-3.new.seat) (sym (p.1 ∙ ap Err p.2))
    (not_taken z c.args.seat.now d _ k _ _ k2 _ _ _ gave (c.give_turn-3.ensures [] [] (holds_next held gave.goes)) c.args.name.now c.in_err-outcome.field-0.0 _ (c.in_err-outcome.ensures {u = tt}).answered)

pub unreachable-requires : goal.unreachable-requires
unreachable-requires g c =
    let name = c.args.name.now in let z = c.args.store.now in let d = c.take_turn-log.result.value.state in let k = c.take_turn-log.ensures.taken in let k2 = lent_as c.deref_mut.ensures.value c.take_turn-tables.ensures.taken in
    let held = c.take_under-outcome.ensures.holds (writes d ∷ []) (0 ∷ []) (holds_two (holds_alone c.requires k) k2) in
    let gave = c.give_turn-2.ensures (writes d ∷ []) (0 ∷ []) held in
    let found : IsPrepareOf d.history name c.in-Ok.prepare = subst (λ (entries : List Entry). IsPrepareOf entries name c.in-Ok.prepare) (c.history.ensures.entries ∙ ap (λ (x : LogState). x.state.history) c.deref.ensures) (c.in-Ok.ensures {u = tt}) in
    not_none z c.args.seat.now d _ k _ _ k2 _ _ _ gave (c.give_turn-3.ensures [] [] (holds_next held gave.goes)) name (c.in_ok-outcome.ensures {u = tt}).answered.2
    (subst (λ (o : Option (ℕ × List Change)). IsPrepareOf d.history name o) c.in_default-prepare.is found)

pub returns : goal.returns
returns g c =
    let name = c.args.name.now in let z = c.args.store.now in let d = c.take_turn-log.result.value.state in let k = c.take_turn-log.ensures.taken in let k2 = lent_as c.deref_mut.ensures.value c.take_turn-tables.ensures.taken in
    let held = c.take_under-outcome.ensures.holds (writes d ∷ []) (0 ∷ []) (holds_two (holds_alone c.requires k) k2) in
    let gave = c.give_turn-2.ensures (writes d ∷ []) (0 ∷ []) held in
    let found : IsPrepareOf d.history name c.in-Ok.prepare = subst (λ (entries : List Entry). IsPrepareOf entries name c.in-Ok.prepare) (c.history.ensures.entries ∙ ap (λ (x : LogState). x.state.history) c.deref.ensures) (c.in-Ok.ensures {u = tt}) in
    let lent = c.deref-2.ensures ∙ sym c.deref_mut.ensures.value in
    let beyond = subst (λ (x : LockState). AreBeyond x name c.in-Some.batch c.in-Ok-keys_beyond.locked.items) lent
    (beyond_of c.deref-2.result.now name c.in-Ok-keys_beyond.locked.items c.as_ref.result c.in-Some.number c.in-Some.batch (c.as_ref.ensures.value ∙ c.in-Some.is) (c.in-Ok-keys_beyond.ensures {u = tt})) in
    let t = takes z c.args.seat.now d _ k _ _ k2 _ _ _ gave (c.give_turn-3.ensures [] [] (holds_next held gave.goes)) name (c.in_ok-outcome.ensures {u = tt}).answered.2 c.in-Some.number c.in-Some.batch c.in-Ok-keys_beyond.locked.items (c.in_ok-outcome.ensures {u = tt}).answered.1
    (subst (λ (o : Option (ℕ × List Change)). IsPrepareOf d.history name o) c.in-Some.is found) beyond in
    let under : List ℕ → PreparedState = λ n. record { name = n; number = c.in-Some.number; batch = c.in-Some.batch; locked = c.in-Ok-keys_beyond.locked.items } in
    subst (λ (n : List ℕ). Takes z c.args.seat.now name (under n) c.give_turn-3.new.seat) (sym (c.in_ok-taken.ensures {u = tt})) t

pub returns-in_err-taken : goal.returns-in_err-taken
returns-in_err-taken g c =
    let p = err_from_is_err_and c.from_residual.result c.from_residual.ensures.1 in
    subst (λ (r : Result PreparedState TxnError). TakesPrepared c.args.store.now c.args.seat.now c.args.name.now r c.args.seat.now) (sym (p.1 ∙ ap Err p.2)) (continues_none c.args.store.now c.args.seat.now c.requires)

pub returns-in_err-asked : goal.returns-in_err-asked
returns-in_err-asked g c =
    let p = err_from_is_err_and c.from_residual-in_err-asked.result c.from_residual-in_err-asked.ensures.1 in
    subst (λ (r : Result PreparedState TxnError). TakesPrepared c.args.store.now c.args.seat.now c.args.name.now r c.args.seat.now) (sym (p.1 ∙ ap Err p.2)) (continues_none c.args.store.now c.args.seat.now c.requires)

pub returns-in_err-client : goal.returns-in_err-client
returns-in_err-client g c =
    let p = err_from_is_err_and c.from_residual-in_err-client.result c.from_residual-in_err-client.ensures.1 in
    subst (λ (r : Result PreparedState TxnError). TakesPrepared c.args.store.now c.args.seat.now c.args.name.now r c.args.seat.now) (sym (p.1 ∙ ap Err p.2)) (continues_none c.args.store.now c.args.seat.now c.requires)
