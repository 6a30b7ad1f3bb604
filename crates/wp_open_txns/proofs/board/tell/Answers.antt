use Rattle.std.proofs.Common.{[], refl, sym, ap, subst, ◌∙◌, Err}
use Rattle.std.specs.Prelude.{ℕ, Result}
use Rattle.std.proofs.lemmas.Result.{err_from_is_err_and}
use Rattle.wp_core.specs.Changes.{sees}
use Rattle.wp_shared.specs.Seats.{SeatState}
use Rattle.wp_shared.proofs.OneStep.{becomes}
use Rattle.wp_shared.proofs.Onward.{holds_alone}
use Rattle.wp_open_txns.specs.declared.error.TxnError.{TxnError}
use Rattle.wp_open_txns.specs.Calls.{Tells}
use Rattle.wp_open_txns.proofs.GoesOn.{lent_as, held_last, holds_still, told_back, not_told}
use Rattle.wp_open_txns.proofs.Made.{published_before}
use Rattle.wp_open_txns.proofs.board.tell.Goals as goal

pub tell_under-outcome-requires-clause-seat : goal.tell_under-outcome-requires-clause-seat
tell_under-outcome-requires-clause-seat g c = let p = c.published-published.ensures in let s = c.take_turn-tables.new.seat in let s2 = c.published-published.new.seat in
    holds_still (sees s2.knows.participant.seen s.knows) c.deref_mut.result.now (holds_alone c.requires (lent_as c.deref_mut.ensures.value c.take_turn-tables.ensures.taken)) refl (becomes s s2 _ p.same p.rest) refl refl

pub give_turn-requires-clause-holds : goal.give_turn-requires-clause-holds
give_turn-requires-clause-holds g c = ([], [], c.tell_under-outcome.ensures.holds)

pub returns-in_err-outcome : goal.returns-in_err-outcome
returns-in_err-outcome g c =
    let q = err_from_is_err_and c.from_residual-in_err-outcome.result c.from_residual-in_err-outcome.ensures.1 in let p = c.published-published.ensures in let s = c.take_turn-tables.new.seat in let s2 = c.published-published.new.seat in
    subst (λ (r : Result ℕ TxnError). Tells c.args.store.now c.args.seat.now c.args.label.now r c.give_turn.new.seat) (sym (q.1 ∙ ap Err q.2))
    (not_told c.args.store.now c.args.seat.now _ _ (lent_as c.deref_mut.ensures.value c.take_turn-tables.ensures.taken) c.args.label.now c.in_err-outcome.field-0.0 s2.knows.participant.seen s2 _ _ c.give_turn.new.seat (becomes s s2 _ p.same p.rest) p.seen.0 (c.in_err-outcome.ensures {u = tt}).answered
    (c.give_turn.ensures [] [] c.tell_under-outcome.ensures.holds))

pub returns : goal.returns
returns g c =
    let z = c.args.store.now in let k = (lent_as c.deref_mut.ensures.value c.take_turn-tables.ensures.taken) in let p = c.published-published.ensures in let s = c.take_turn-tables.new.seat in let s2 = c.published-published.new.seat in
    let done = c.in_ok-outcome.ensures {u = tt} in let r = c.tell_under-outcome.new.seat in
    told_back z c.args.seat.now _ s k c.args.label.now c.published-published.result s2.knows.participant.seen s2 _ r c.give_turn.new.seat (becomes s s2 _ p.same p.rest) p.seen.0 p.seen.1 done.answered c.tell_under-outcome.ensures.holds done.stands
    (published_before z s s2 r _ _ p.same.1 p.stands p.rest (held_last (holds_alone c.requires k)) (ap (λ (x : SeatState). x.knows.participant.seen) done.answered.1)) (c.give_turn.ensures [] [] c.tell_under-outcome.ensures.holds)
