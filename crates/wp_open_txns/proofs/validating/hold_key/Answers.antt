use Rattle.std.proofs.Common.{[], ap, sym, subst, ◌∙◌, Err}
use Rattle.std.specs.Prelude.{Result}
use Rattle.std.proofs.lemmas.Result.{err_from_is_err_and}
use Rattle.wp_shared.proofs.Onward.{continues_none, holds_alone}
use Rattle.wp_open_txns.specs.declared.error.TxnError.{TxnError}
use Rattle.wp_open_txns.specs.Keys.{HoldsKey}
use Rattle.wp_open_txns.proofs.GoesOn.{lent_as}
use Rattle.wp_open_txns.proofs.KeyTaken.{key_held}
use Rattle.wp_open_txns.proofs.validating.hold_key.Goals as goal

pub hold_for-outcome-requires-clause-seat : goal.hold_for-outcome-requires-clause-seat
hold_for-outcome-requires-clause-seat g c = holds_alone c.requires.free (lent_as c.deref_mut.ensures.value c.take_turn-tables.ensures.taken)

pub give_turn-requires-clause-holds : goal.give_turn-requires-clause-holds
give_turn-requires-clause-holds g c = ([], [], c.hold_for-outcome.ensures.holds)

pub returns : goal.returns
returns g c = let done = c.hold_for-outcome.ensures in
    key_held c.args.store.now c.args.seat.now _ _ (lent_as c.deref_mut.ensures.value c.take_turn-tables.ensures.taken) c.args.name.now c.args.key.now _ _ c.give_turn.new.seat c.hold_for-outcome.result done.answered (c.give_turn.ensures [] [] done.holds)

pub returns-in_err-copy : goal.returns-in_err-copy
returns-in_err-copy g c =
    let p = err_from_is_err_and c.from_residual.result c.from_residual.ensures.1 in
    subst (λ (r : Result (Unit {0}) TxnError). HoldsKey c.args.store.now c.args.seat.now c.args.name.now c.args.key.now r c.args.seat.now) (sym (p.1 ∙ ap Err p.2)) (continues_none c.args.store.now c.args.seat.now c.requires.free)
