use Rattle.std.proofs.Common.{◌≡◌, ℕ, List, [], ◌∷◌, length, None, inl, refl, subst, sym, ap, ◌∙◌, arith}
use Rattle.std.specs.Prelude.{Ok, Err}
use Rattle.wp_model.specs.declared.entry.Entry.{Entry}
use Rattle.wp_model.specs.declared.entry.Entry.TheVariants.{Commit}
use Rattle.wp_core.specs.Views.{Fact}
use Rattle.wp_shared.proofs.Onward.{continues_none}
use Rattle.wp_open_txns.specs.declared.error.TxnError.TheVariants.{Memory}
use Rattle.wp_open_txns.specs.Txn.{PreparedState}
use Rattle.wp_txn.specs.Recording.{IsEndOf, notes_of_each, Records}
use Rattle.wp_txn.specs.Writes.{AsksCommit, StayUnchanged}
use Rattle.wp_txn.proofs.BeforeLog.{refused_txn_before}
use Rattle.wp_txn.proofs.Ends.{ended, stay_unchanged, refuses_prepared}
use Rattle.wp_txn.proofs.GroupEnds.{one_decided}
use Rattle.wp_txn.proofs.Recorded.{records_commits}
use Rattle.wp_txn.proofs.deciding.commit.Goals as goal

-- there was no memory for the record
pub returns-in_default-clause-refused : goal.returns-in_default-clause-refused
returns-in_default-clause-refused g c = let s = c.args.seat.now in refuses_prepared c.args.store.now s s c.args.txn 1 AsksCommit Memory c.requires.prepared (continues_none c.args.store.now s c.requires.free)

pub returns-in_default-clause-before_log : goal.returns-in_default-clause-before_log
returns-in_default-clause-before_log g c = let z = c.args.store.now in let s = c.args.seat.now in refused_txn_before z s s 1 (λ asked. Unit {0}) Memory (continues_none z s c.requires.free) (inl refl)

pub record-requires-clause-may : goal.record-requires-clause-may
record-requires-clause-may g c =
    let x : PreparedState = c.args.txn in
    records_commits c.args.store.now c.args.seat.now c.in-Ok.commit (x ∷ []) _ (c.in-Ok.ensures ∙ ap (λ n. Commit n ∷ []) c.number.ensures) ((c.requires.prepared, tt), λ i j d low high. absurd (omega (arith, low, high))) (tt, tt)
    (λ history end. subst (λ (xs : List PreparedState). IsEndOf xs history (Commit x.number ∷ [])) (sym c.from_ref.ensures.value) end)

pub end-requires-clause-has : goal.end-requires-clause-has
end-requires-clause-has g c =
    let z = c.args.store.now in let s = c.args.seat.now in let mid = c.record.new.seat in let x : PreparedState = c.args.txn in
    let r = subst (λ (i : List Entry × List PreparedState). Records z s i.0 (λ m. notes_of_each i.1) (Ok c.in-Ok-record.number) mid) (λ i. ((c.in-Ok.ensures ∙ ap (λ n. Commit n ∷ []) c.number.ensures) i, c.from_ref.ensures.value i)) (c.in-Ok-record.ensures {u = tt}) in
    (one_decided z s mid x c.requires.free c.requires.prepared c.in-Ok-record.number r).has

pub end-requires-clause-noted : goal.end-requires-clause-noted
end-requires-clause-noted g c =
    let z = c.args.store.now in let s = c.args.seat.now in let mid = c.record.new.seat in let x : PreparedState = c.args.txn in
    let r = subst (λ (i : List Entry × List PreparedState). Records z s i.0 (λ m. notes_of_each i.1) (Ok c.in-Ok-record.number) mid) (λ i. ((c.in-Ok.ensures ∙ ap (λ n. Commit n ∷ []) c.number.ensures) i, c.from_ref.ensures.value i)) (c.in-Ok-record.ensures {u = tt}) in
    (one_decided z s mid x c.requires.free c.requires.prepared c.in-Ok-record.number r).noted

pub end-requires-clause-decided : goal.end-requires-clause-decided
end-requires-clause-decided g c =
    let z = c.args.store.now in let s = c.args.seat.now in let mid = c.record.new.seat in let x : PreparedState = c.args.txn in
    let r = subst (λ (i : List Entry × List PreparedState). Records z s i.0 (λ m. notes_of_each i.1) (Ok c.in-Ok-record.number) mid) (λ i. ((c.in-Ok.ensures ∙ ap (λ n. Commit n ∷ []) c.number.ensures) i, c.from_ref.ensures.value i)) (c.in-Ok-record.ensures {u = tt}) in
    (one_decided z s mid x c.requires.free c.requires.prepared c.in-Ok-record.number r).decided

pub returns-in-Ok-record-clause-ok : goal.returns-in-Ok-record-clause-ok
returns-in-Ok-record-clause-ok g c =
    let z = c.args.store.now in let s = c.args.seat.now in let mid = c.record.new.seat in let x : PreparedState = c.args.txn in
    let r = subst (λ (i : List Entry × List PreparedState). Records z s i.0 (λ m. notes_of_each i.1) (Ok c.in-Ok-record.number) mid) (λ i. ((c.in-Ok.ensures ∙ ap (λ n. Commit n ∷ []) c.number.ensures) i, c.from_ref.ensures.value i)) (c.in-Ok-record.ensures {u = tt}) in
    let n = c.in-Ok-record.number in let entries : List Entry = Commit x.number ∷ [] in let notes : ℕ → List Fact = λ m. notes_of_each (x ∷ []) in let begins = continues_none z s c.requires.free in (
      ended z s s mid mid c.end.new.seat None entries notes n begins r (continues_none z mid r.1.1.put.goes_on.free) refl x.name (StayUnchanged x) (stay_unchanged z s s mid entries notes n begins r x c.requires.prepared) c.end.ensures.frees,
      c.end.ensures.gone,
    )

pub returns-in-Err-clause-refused : goal.returns-in-Err-clause-refused
returns-in-Err-clause-refused g c =
    let z = c.args.store.now in let s = c.args.seat.now in let new = c.record.new.seat in let x : PreparedState = c.args.txn in
    let r = subst (λ (i : List Entry × List PreparedState). Records z s i.0 (λ m. notes_of_each i.1) (Err c.in-Err.why) new) (λ i. ((c.in-Ok.ensures ∙ ap (λ n. Commit n ∷ []) c.number.ensures) i, c.from_ref.ensures.value i)) (c.in-Err.ensures {u = tt}) in
    refuses_prepared z s new x 1 AsksCommit c.in-Err.why c.requires.prepared r.0

pub returns-in-Err-clause-before_log : goal.returns-in-Err-clause-before_log
returns-in-Err-clause-before_log g c = let r = c.in-Err.ensures {u = tt} in
    refused_txn_before c.args.store.now c.args.seat.now c.record.new.seat (length c.in-Ok.commit) (λ asked. asked ≡ c.in-Ok.commit) c.in-Err.why r.0 r.1
