use Rattle.std.proofs.Common.{◌≡◌, ℕ, [], ◌∷◌, Some, length, subst, sym, ap, ◌∙◌, Err, Ok}
use Rattle.std.specs.Prelude.{Result}
use Rattle.std.proofs.lemmas.Result.{err_from_is_err_and}
use Rattle.wp_model.specs.History.{named}
use Rattle.wp_core.specs.Views.{undecided_at}
use Rattle.wp_records.specs.declared.error.WriteError.{WriteError}
use Rattle.wp_txn.specs.Recording.{MayNote, PutsNoting, notes_of_each, notes_of}
use Rattle.wp_txn.specs.declared.recording.Noting.{Noting}
use Rattle.wp_txn.proofs.UnderLog.{one_noted, put_noting, held_still, prepare_has, prepare_is, all_decided}
use Rattle.wp_txn.proofs.recording.put_noting.Goals as goal

pub returns-in_err-put : goal.returns-in_err-put
returns-in_err-put g c = let p = err_from_is_err_and c.from_residual.result c.from_residual.ensures.1 in
    subst (λ (r : Result (Unit {0}) WriteError). PutsNoting c.args.store.now c.args.seat.now c.args.log.now c.args.entries (notes_of c.args.noting (length c.put.new.log.state.history)) r c.put.new.seat c.put.new.log) (sym (p.1 ∙ ap Err p.2)) (c.in_err-put.ensures {u = tt})

pub note_undecided-requires-clause-seat : goal.note_undecided-requires-clause-seat
note_undecided-requires-clause-seat g c = let put = (c.in_ok-put.ensures {u = tt}).0 in (put.holds.turn.same_table, put.holds.turn.live)

pub note_undecided-requires-clause-held : goal.note_undecided-requires-clause-held
note_undecided-requires-clause-held g c = held_still _ _ _ _ _ _ (c.in_ok-put.ensures {u = tt}).0 c.requires.may c.in-Undecided.name.now

pub note_undecided-requires-clause-has : goal.note_undecided-requires-clause-has
note_undecided-requires-clause-has g c = let may = subst (λ (n : Noting). MayNote n c.args.log.now.state.history c.args.entries) c.in-Undecided.is c.requires.noting in
    prepare_has _ _ _ _ _ _ (c.in_ok-put.ensures {u = tt}).0 c.requires.may c.in-Undecided.name.now may.0 may.1

pub note_undecided-requires-clause-prepare : goal.note_undecided-requires-clause-prepare
note_undecided-requires-clause-prepare g c = let may = subst (λ (n : Noting). MayNote n c.args.log.now.state.history c.args.entries) c.in-Undecided.is c.requires.noting in
    subst (λ (n : ℕ). named c.put.new.log.state.history c.in-Undecided.name.now ≡ Some n) (sym c.published.ensures.value) (prepare_is _ _ _ _ _ _ (c.in_ok-put.ensures {u = tt}).0 c.requires.may c.in-Undecided.name.now may.0 may.1)

pub note_decided-requires-clause-seat : goal.note_decided-requires-clause-seat
note_decided-requires-clause-seat g c = let put = (c.in_ok-put.ensures {u = tt}).0 in (put.holds.turn.same_table, put.holds.turn.live)

pub note_decided-requires-clause-held : goal.note_decided-requires-clause-held
note_decided-requires-clause-held g c = held_still _ _ _ _ _ _ (c.in_ok-put.ensures {u = tt}).0 c.requires.may []

pub note_decided-requires-clause-decided : goal.note_decided-requires-clause-decided
note_decided-requires-clause-decided g c =
    all_decided _ _ _ _ _ _ (c.in_ok-put.ensures {u = tt}).0 c.requires.may c.in-Unprepared.txns.now (subst (λ (n : Noting). MayNote n c.args.log.now.state.history c.args.entries) c.in-Unprepared.is c.requires.noting)

pub returns-in-Nothing : goal.returns-in-Nothing
returns-in-Nothing g c = let p = c.in_ok-put.ensures {u = tt} in
    subst (λ (n : Noting). PutsNoting c.args.store.now c.args.seat.now c.args.log.now c.args.entries (notes_of n (length c.put.new.log.state.history)) (Ok tt) c.put.new.seat c.put.new.log) (sym c.in-Nothing.is) (p.0, p.1, λ fact there. absurd there)

pub returns-in-Undecided : goal.returns-in-Undecided
returns-in-Undecided g c = let p = c.in_ok-put.ensures {u = tt} in
    subst (λ (n : Noting). PutsNoting c.args.store.now c.args.seat.now c.args.log.now c.args.entries (notes_of n (length c.put.new.log.state.history)) (Ok tt) c.note_undecided.new.seat c.put.new.log) (sym c.in-Undecided.is)
    (subst (λ (n : ℕ). PutsNoting c.args.store.now c.args.seat.now c.args.log.now c.args.entries (undecided_at c.in-Undecided.name.now n ∷ []) (Ok tt) c.note_undecided.new.seat c.put.new.log) c.published.ensures.value
    (put_noting _ _ _ _ _ _ _ (undecided_at c.in-Undecided.name.now c.published.result ∷ []) p.0 p.1 (one_noted _ _ (undecided_at c.in-Undecided.name.now c.published.result) c.note_undecided.ensures)))

pub returns-in-Unprepared : goal.returns-in-Unprepared
returns-in-Unprepared g c = let p = c.in_ok-put.ensures {u = tt} in
    subst (λ (n : Noting). PutsNoting c.args.store.now c.args.seat.now c.args.log.now c.args.entries (notes_of n (length c.put.new.log.state.history)) (Ok tt) c.note_decided.new.seat c.put.new.log) (sym c.in-Unprepared.is)
    (put_noting _ _ _ _ _ _ _ (notes_of_each c.in-Unprepared.txns.now) p.0 p.1 c.note_decided.ensures)
