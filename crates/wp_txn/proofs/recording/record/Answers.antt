use Rattle.std.proofs.Common.{◌≡◌, ◌+◌, ◌≤◌, ℕ, length, subst, sym, ap, ◌∙◌, Err}
use Rattle.std.specs.Prelude.{Result}
use Rattle.std.proofs.lemmas.Result.{err_from_is_err_and}
use Rattle.wp_entry.specs.Record.{last_number}
use Rattle.wp_open_txns.specs.declared.error.TxnError.{TxnError}
use Rattle.wp_parts.specs.Log.{LogState}
use Rattle.wp_records.specs.Records.{MayPut}
use Rattle.wp_records.specs.Writing.{HoldsWrite}
use Rattle.wp_txn.specs.Recording.{OpensLog, MayNote, PutsNoting, Records, notes_of}
use Rattle.wp_txn.specs.Writes.{Refuses}
use Rattle.wp_txn.proofs.Goes.{refused_for}
use Rattle.wp_txn.proofs.UnderLog.{recorded, holds_then, noting_loose}
use Rattle.wp_txn.proofs.recording.record.Goals as goal

pub returns-in_err-log : goal.returns-in_err-log
returns-in_err-log g c = let p = err_from_is_err_and c.from_residual.result c.from_residual.ensures.1 in let z = c.args.store.now in let s = c.args.seat.now in let new = c.open_log.new.seat in let was = s.knows.participant in
    subst (λ (r : Result ℕ TxnError). Records z s c.args.entries (notes_of c.args.noting) r new) (sym (p.1 ∙ ap Err p.2)) (
      refused_for z s new (length c.args.entries) (λ asked. asked ≡ c.args.entries) was was c.in_err-log.field-0.0 (subst (λ (n : ℕ). Refuses z s new n (λ asked. ⊥) was was c.in_err-log.field-0.0) c.len.ensures c.in_err-log.ensures.refused.0),
      c.in_err-log.ensures.refused.1,
    )

pub put_noting-outcome-requires-clause-holds : goal.put_noting-outcome-requires-clause-holds
put_noting-outcome-requires-clause-holds g c = subst (HoldsWrite c.args.store.now c.open_log.new.seat) (sym c.deref_mut.ensures.value) c.in_ok-log.ensures.ok.holds

pub put_noting-outcome-requires-clause-running : goal.put_noting-outcome-requires-clause-running
put_noting-outcome-requires-clause-running g c = ap (λ (x : LogState). x.state.closed) c.deref_mut.ensures.value ∙ c.in_ok-log.ensures.ok.running

pub put_noting-outcome-requires-clause-may : goal.put_noting-outcome-requires-clause-may
put_noting-outcome-requires-clause-may g c = let t = c.open_log.new.seat in
    subst (λ (x : LogState). MayPut t.knows x.state.history c.args.entries) (sym c.deref_mut.ensures.value) (c.requires.may.may t c.in_ok-log.log.value (subst (OpensLog c.args.store.now c.args.seat.now t c.in_ok-log.log.value) c.len.ensures c.in_ok-log.ensures.ok)).0

pub put_noting-outcome-requires-clause-within : goal.put_noting-outcome-requires-clause-within
put_noting-outcome-requires-clause-within g c =
    let o = subst (OpensLog c.args.store.now c.args.seat.now c.open_log.new.seat c.in_ok-log.log.value) c.len.ensures c.in_ok-log.ensures.ok in
    subst (λ (x : LogState). length x.state.history + length c.args.entries ≤ last_number x.wal.format) (sym c.deref_mut.ensures.value) o.numbers

pub put_noting-outcome-requires-clause-noting : goal.put_noting-outcome-requires-clause-noting
put_noting-outcome-requires-clause-noting g c = let t = c.open_log.new.seat in
    subst (λ (x : LogState). MayNote c.args.noting x.state.history c.args.entries) (sym c.deref_mut.ensures.value) (c.requires.may.may t c.in_ok-log.log.value (subst (OpensLog c.args.store.now c.args.seat.now t c.in_ok-log.log.value) c.len.ensures c.in_ok-log.ensures.ok)).1

pub close_log-requires : goal.close_log-requires
close_log-requires g c = let put = c.put_noting-outcome in holds_then c.args.store.now c.open_log.new.seat put.new.seat c.deref_mut.result.now put.new.log c.args.entries (notes_of c.args.noting (length put.new.log.state.history)) put.result put.ensures

pub returns : goal.returns
returns g c =
    let z = c.args.store.now in let s = c.args.seat.now in let t = c.open_log.new.seat in let log = c.in_ok-log.log.value in let put = c.put_noting-outcome in let entries = c.args.entries in let noting = c.args.noting in
    let o = subst (OpensLog z s t log) c.len.ensures c.in_ok-log.ensures.ok in
    let puts = subst (λ (x : LogState). PutsNoting z t x entries (notes_of noting (length put.new.log.state.history)) put.result put.new.seat put.new.log) c.deref_mut.ensures.value put.ensures in
    subst (λ (r : Result ℕ TxnError). Records z s entries (notes_of noting) r c.close_log.new.seat) (sym c.close_log.ensures.answer)
    (recorded z s t put.new.seat c.close_log.new.seat log put.new.log entries (notes_of noting) o (c.requires.may.may t log o).0.legal (noting_loose noting) c.close_log.ensures.gives c.close_log.ensures.log put.result puts)
