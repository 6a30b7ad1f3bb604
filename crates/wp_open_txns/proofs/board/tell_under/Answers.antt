use Rattle.std.proofs.Common.{refl, sym, ap, subst, ◌∙◌, length, Err}
use Rattle.std.specs.Prelude.{Result}
use Rattle.std.proofs.lemmas.Result.{err_from_is_err_and}
use Rattle.wp_core.specs.Changes.{with_label}
use Rattle.wp_open_txns.specs.declared.error.TxnError.{TxnError}
use Rattle.wp_open_txns.specs.Actors.{with_told}
use Rattle.wp_open_txns.specs.Under.{TellsUnder}
use Rattle.wp_open_txns.proofs.GoesOn.{held_last, holds_tables, holds_still}
use Rattle.wp_open_txns.proofs.board.tell_under.Goals as goal

pub returns-in_err-tell-clause-answered : goal.returns-in_err-tell-clause-answered
returns-in_err-tell-clause-answered g c = let p = err_from_is_err_and c.from_residual.result c.from_residual.ensures.1 in
    subst (λ (r : Result (Unit {0}) TxnError). TellsUnder c.args.tables.now c.args.seat.now c.args.label.now r c.tell.new.self c.args.seat.now) (sym (p.1 ∙ ap Err p.2)) ((c.in_err-tell.ensures {u = tt}).err, refl)

pub returns-in_err-tell-clause-holds : goal.returns-in_err-tell-clause-holds
returns-in_err-tell-clause-holds g c = holds_still c.args.seat.now.knows c.tell.new.self c.requires.seat (c.in_err-tell.ensures {u = tt}).err refl refl refl

pub tell_label-requires-clause-held : goal.tell_label-requires-clause-held
tell_label-requires-clause-held g c = (c.args.tables.now, held_last c.requires.seat)

pub returns-clause-holds : goal.returns-clause-holds
returns-clause-holds g c =
    let s = c.args.seat.now in let label = c.args.label.now in
    holds_tables (with_told c.args.tables.now label s.knows) (with_label c.args.tables.now label (length s.knows.participant.seen)) c.tell.new.self c.requires.seat ((c.in_ok-tell.ensures {u = tt}).ok ∙ (λ i. with_label c.args.tables.now (c.requires.label i) (c.requires.seen i))) (c.tell_label.ensures.told c.args.tables.now (held_last c.requires.seat)) refl refl
