use Rattle.std.proofs.Common.{◌≡◌, ◌≤◌, List, [], ◌∷◌, length, inl, refl, subst, sym, ap, ◌∙◌, arith}
use Rattle.std.specs.Prelude.{Ok, Err}
use Rattle.wp_model.specs.declared.change.Change.{Change}
use Rattle.wp_model.specs.declared.entry.Entry.{Entry}
use Rattle.wp_model.specs.declared.entry.Entry.TheVariants.{Undo, Close}
use Rattle.wp_core.specs.Lists.{IsIn}
use Rattle.wp_core.specs.Views.{unprepared}
use Rattle.wp_shared.proofs.Onward.{continues_none}
use Rattle.wp_open_txns.specs.declared.error.TxnError.TheVariants.{Memory}
use Rattle.wp_open_txns.specs.Txn.{PreparedState}
use Rattle.wp_txn.specs.Recording.{IsEndOf, IsPriorSince, notes_of_each, Records}
use Rattle.wp_txn.specs.Writes.{AsksRollback}
use Rattle.wp_txn.proofs.BeforeLog.{refused_txn_before}
use Rattle.wp_txn.proofs.Ends.{refuses_prepared, refused_from}
use Rattle.wp_txn.proofs.Goes.{refused_still}
use Rattle.wp_txn.proofs.Recorded.{records_rollback}
use Rattle.wp_txn.proofs.RollsBack.{prepared_since, asks_prior, locked_still, rolled_back_decides, rolled_back}
use Rattle.wp_txn.proofs.undoing.rollback.Goals as goal

pub returns-in_default-clause-refused : goal.returns-in_default-clause-refused
returns-in_default-clause-refused g c = refuses_prepared c.args.store.now c.args.seat.now c.prior_now.new.seat c.args.txn 2 AsksRollback Memory c.requires.prepared c.prior_now.ensures.seat

pub returns-in_default-clause-before_log : goal.returns-in_default-clause-before_log
returns-in_default-clause-before_log g c =
    let z = c.args.store.now in let read = c.prior_now.new.seat in let begins = c.prior_now.ensures.seat in
    (read, begins, refused_txn_before z read read 2 (λ asked. Unit {0}) Memory (continues_none z read begins.free) (inl refl))

-- there was no memory for the record
pub returns-in_default-roll_back-clause-refused : goal.returns-in_default-roll_back-clause-refused
returns-in_default-roll_back-clause-refused g c = refuses_prepared c.args.store.now c.args.seat.now c.prior_now.new.seat c.args.txn 2 AsksRollback Memory c.requires.prepared c.prior_now.ensures.seat

pub returns-in_default-roll_back-clause-before_log : goal.returns-in_default-roll_back-clause-before_log
returns-in_default-roll_back-clause-before_log g c =
    let z = c.args.store.now in let read = c.prior_now.new.seat in let begins = c.prior_now.ensures.seat in
    (read, begins, refused_txn_before z read read 2 (λ asked. Unit {0}) Memory (continues_none z read begins.free) (inl refl))

pub record-requires-clause-may : goal.record-requires-clause-may
record-requires-clause-may g c =
    let z = c.args.store.now in let s = c.args.seat.now in let t = c.prior_now.new.seat in let b = c.in-Ok.prior in let x : PreparedState = c.args.txn in
    let k = subst (λ (batch : List Change). IsPriorSince s t batch b) c.batch.ensures c.in-Ok.ensures.prior in
    let low : x.number ≤ k.0 = (let a = k.1 in let within = c.requires.prepared.seen in omega (arith, a, within)) in
    records_rollback z t c.in-Ok-roll_back.undo x _ (prepared_since z s t x c.prior_now.ensures.seat c.requires.prepared) b (c.in-Ok-roll_back.ensures ∙ ap (λ n. Undo n b ∷ Close n ∷ []) c.number.ensures) c.shows_batch.ensures c.held_keys_keep_their_values.ensures
    (k.0, low, k.2, k.3) (λ history end. subst (λ (xs : List PreparedState). IsEndOf xs history (Undo x.number b ∷ Close x.number ∷ [])) (sym c.from_ref.ensures.value) end)

pub end-requires-clause-has : goal.end-requires-clause-has
end-requires-clause-has g c =
    let z = c.args.store.now in let s = c.args.seat.now in let t = c.prior_now.new.seat in let mid = c.record.new.seat in let x = c.args.txn in let b = c.in-Ok.prior in let n = c.in-Ok-record.number in let begins = c.prior_now.ensures.seat in
    let made = c.in-Ok-roll_back.ensures ∙ ap (λ n. Undo n b ∷ Close n ∷ []) c.number.ensures in
    let r = subst (λ (i : List Entry × List PreparedState). Records z t i.0 (λ m. notes_of_each i.1) (Ok n) mid) (λ i. (made i, c.from_ref.ensures.value i)) (c.in-Ok-record.ensures {u = tt}) in
    locked_still z s t mid x b begins (prepared_since z s t x begins c.requires.prepared) (λ m. notes_of_each (x ∷ [])) n r

pub end-requires-clause-noted : goal.end-requires-clause-noted
end-requires-clause-noted g c = (c.in-Ok-record.ensures {u = tt}).2 (unprepared c.args.txn.name) (subst (λ (xs : List PreparedState). IsIn (unprepared c.args.txn.name) (notes_of_each xs)) (sym c.from_ref.ensures.value) (inl refl))

pub end-requires-clause-decided : goal.end-requires-clause-decided
end-requires-clause-decided g c =
    let z = c.args.store.now in let s = c.args.seat.now in let t = c.prior_now.new.seat in let mid = c.record.new.seat in let x = c.args.txn in let b = c.in-Ok.prior in let n = c.in-Ok-record.number in let begins = c.prior_now.ensures.seat in
    let made = c.in-Ok-roll_back.ensures ∙ ap (λ n. Undo n b ∷ Close n ∷ []) c.number.ensures in
    let r = subst (λ (i : List Entry × List PreparedState). Records z t i.0 (λ m. notes_of_each i.1) (Ok n) mid) (λ i. (made i, c.from_ref.ensures.value i)) (c.in-Ok-record.ensures {u = tt}) in
    rolled_back_decides z s t mid x b begins (prepared_since z s t x begins c.requires.prepared) (λ m. notes_of_each (x ∷ [])) n r

pub returns-in-Ok-record-clause-ok : goal.returns-in-Ok-record-clause-ok
returns-in-Ok-record-clause-ok g c =
    let z = c.args.store.now in let s = c.args.seat.now in let t = c.prior_now.new.seat in let mid = c.record.new.seat in let x = c.args.txn in let b = c.in-Ok.prior in let n = c.in-Ok-record.number in let begins = c.prior_now.ensures.seat in
    let made = c.in-Ok-roll_back.ensures ∙ ap (λ n. Undo n b ∷ Close n ∷ []) c.number.ensures in
    let r = subst (λ (i : List Entry × List PreparedState). Records z t i.0 (λ m. notes_of_each i.1) (Ok n) mid) (λ i. (made i, c.from_ref.ensures.value i)) (c.in-Ok-record.ensures {u = tt}) in
    rolled_back z s t mid x b begins (prepared_since z s t x begins c.requires.prepared) (λ m. notes_of_each (x ∷ [])) n r c.end.new.seat c.end.ensures.frees c.end.ensures.gone

pub returns-clause-refused : goal.returns-clause-refused
returns-clause-refused g c =
    let z = c.args.store.now in let s = c.args.seat.now in let t = c.prior_now.new.seat in let new = c.record.new.seat in let why = c.in-Err.why in let x = c.args.txn in let found = c.in-Ok.prior in
    let Asks : List Entry → Type 0 = λ asked. asked ≡ Undo x.number found ∷ Close x.number ∷ [] in
    let Any : List Entry → Type 0 = λ asked. Unit {0} in
    let made = c.in-Ok-roll_back.ensures ∙ ap (λ n. Undo n found ∷ Close n ∷ []) c.number.ensures in
    let r = subst (λ (i : List Entry × List PreparedState). Records z t i.0 (λ m. notes_of_each i.1) (Err why) new) (λ i. (made i, c.from_ref.ensures.value i)) (c.in-Err.ensures {u = tt}) in
    let still = refused_still z s new 2 Any why (refused_from z s t new 2 Asks Any (λ asked is legal. tt) c.prior_now.ensures.seat why r.0) in
    refuses_prepared z s new x 2 AsksRollback why c.requires.prepared
    (refused_from z s t new 2 Asks (AsksRollback new.knows.participant.seen x) (λ asked is legal. asks_prior z s new x found asked c.requires.prepared still.seen is legal) c.prior_now.ensures.seat why r.0)

pub returns-clause-before_log : goal.returns-clause-before_log
returns-clause-before_log g c =
    let z = c.args.store.now in let read = c.prior_now.new.seat in let r = c.in-Err.ensures {u = tt} in
    (read, c.prior_now.ensures.seat, refused_txn_before z read c.record.new.seat (length c.in-Ok-roll_back.undo) (λ asked. asked ≡ c.in-Ok-roll_back.undo) c.in-Err.why r.0 r.1)
