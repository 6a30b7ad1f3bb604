use Rattle.std.proofs.Common.{inl, ℕ, List, [], refl, sym, subst, ap, ◌∙◌}
use Rattle.std.specs.Prelude.{Result, Err, IfErr}
use Rattle.std.proofs.lemmas.Result.{err_from_is_err_and}
use Rattle.wp_model.specs.Batch.{key_of}
use Rattle.wp_model.specs.declared.entry.Entry.{Entry}
use Rattle.wp_core.specs.World.{Participant}
use Rattle.wp_shared.proofs.Onward.{continues_none}
use Rattle.wp_open_txns.specs.declared.error.TxnError.{TxnError}
use Rattle.wp_txn.specs.Recording.{Records, HasDirect, EndsDirect}
use Rattle.wp_txn.specs.Writes.{MayLeaveDevice, WritesDirect, writing_direct}
use Rattle.wp_txn.proofs.BeforeLog.{written_before}
use Rattle.wp_txn.proofs.DirectWrites.{free_after, direct_after, written, device_left, not_held, unheld_left}
use Rattle.wp_txn.proofs.Recorded.{records_direct}
use Rattle.wp_txn.proofs.direct.write.Goals as goal

pub returns-in_err-key-clause-answers : goal.returns-in_err-key-clause-answers
returns-in_err-key-clause-answers g c =
    let p = err_from_is_err_and c.from_residual.result c.from_residual.ensures.1 in
    subst (λ (r : Result ℕ TxnError). WritesDirect c.args.store.now c.args.seat.now c.args.change r c.args.seat.now) (sym (p.1 ∙ ap Err p.2)) (inl (continues_none c.args.store.now c.args.seat.now c.requires.free))

pub returns-in_err-key-clause-before_log : goal.returns-in_err-key-clause-before_log
returns-in_err-key-clause-before_log g c =
    let p = err_from_is_err_and c.from_residual.result c.from_residual.ensures.1 in
    written_before c.args.store.now c.args.seat.now c.args.seat.now c.args.change c.from_residual.result (returns-in_err-key-clause-answers g c)
    (subst (λ (r : Result ℕ TxnError). IfErr r (λ reason. MayLeaveDevice c.args.store.now (writing_direct (key_of c.args.change) c.args.seat.now.knows.participant) c.args.seat.now reason c.args.seat.now)) (sym (p.1 ∙ ap Err p.2)) (inl refl))

pub returns-in_err-write-clause-answers : goal.returns-in_err-write-clause-answers
returns-in_err-write-clause-answers g c =
    let r = c.from_residual-in_err-write in let p = err_from_is_err_and r.result r.ensures.1 in
    subst (λ (x : Result ℕ TxnError). WritesDirect c.args.store.now c.args.seat.now c.args.change x c.args.seat.now) (sym (p.1 ∙ ap Err p.2)) (inl (continues_none c.args.store.now c.args.seat.now c.requires.free))

pub returns-in_err-write-clause-before_log : goal.returns-in_err-write-clause-before_log
returns-in_err-write-clause-before_log g c =
    let r = c.from_residual-in_err-write in let p = err_from_is_err_and r.result r.ensures.1 in
    written_before c.args.store.now c.args.seat.now c.args.seat.now c.args.change r.result (returns-in_err-write-clause-answers g c)
    (subst (λ (x : Result ℕ TxnError). IfErr x (λ reason. MayLeaveDevice c.args.store.now (writing_direct (key_of c.args.change) c.args.seat.now.knows.participant) c.args.seat.now reason c.args.seat.now)) (sym (p.1 ∙ ap Err p.2)) (inl refl))

pub returns-in_err-hold-clause-answers : goal.returns-in_err-hold-clause-answers
returns-in_err-hold-clause-answers g c =
    let r = c.from_residual-in_err-hold in let p = err_from_is_err_and r.result r.ensures.1 in let mid = c.hold.new.seat in
    let key_is = c.in_ok-key.ensures {u = tt} ∙ c.key.ensures in
    subst (λ (x : Result ℕ TxnError). WritesDirect c.args.store.now c.args.seat.now c.args.change x mid) (sym (p.1 ∙ ap Err p.2)) (not_held c.args.store.now c.args.seat.now mid c.in_ok-key.key c.args.change key_is c.in_err-hold.field-0.0 (c.in_err-hold.ensures {u = tt}))

pub returns-in_err-hold-clause-before_log : goal.returns-in_err-hold-clause-before_log
returns-in_err-hold-clause-before_log g c =
    let r = c.from_residual-in_err-hold in let p = err_from_is_err_and r.result r.ensures.1 in let mid = c.hold.new.seat in
    written_before c.args.store.now c.args.seat.now mid c.args.change r.result (returns-in_err-hold-clause-answers g c)
    (subst (λ (x : Result ℕ TxnError). IfErr x (λ reason. MayLeaveDevice c.args.store.now (writing_direct (key_of c.args.change) c.args.seat.now.knows.participant) c.args.seat.now reason mid)) (sym (p.1 ∙ ap Err p.2))
    (unheld_left c.args.store.now c.args.seat.now mid c.in_ok-key.key (writing_direct (key_of c.args.change) c.args.seat.now.knows.participant) c.in_err-hold.field-0.0 (c.in_err-hold.ensures {u = tt})))

pub record-outcome-requires-clause-may : goal.record-outcome-requires-clause-may
record-outcome-requires-clause-may g c =
    let mid = c.hold.new.seat in let held = subst (HasDirect c.args.store.now c.args.seat.now mid) (c.in_ok-key.ensures {u = tt} ∙ c.key.ensures) (c.in_ok-hold.ensures {u = tt}) in
    records_direct c.args.store.now mid c.in_ok-write.write c.args.change (c.in_ok-write.ensures {u = tt}) (ap (λ (p : Participant). p.direct) held.goes_on.participant) held.noted

pub give_back-requires-clause-free : goal.give_back-requires-clause-free
give_back-requires-clause-free g c = free_after c.args.store.now c.hold.new.seat c.record-outcome.new.seat c.in_ok-write.write (λ n. []) c.record-outcome.result c.record-outcome.ensures

pub give_back-requires-clause-has : goal.give_back-requires-clause-has
give_back-requires-clause-has g c =
    direct_after c.args.store.now c.hold.new.seat c.record-outcome.new.seat c.in_ok-write.write (λ n. []) c.record-outcome.result c.record-outcome.ensures ∙ ap (λ (p : Participant). p.direct) (c.in_ok-hold.ensures {u = tt}).goes_on.participant

pub returns-clause-answers : goal.returns-clause-answers
returns-clause-answers g c =
    let z = c.args.store.now in let s = c.args.seat.now in let mid = c.hold.new.seat in let left = c.record-outcome.new.seat in let key_is = c.in_ok-key.ensures {u = tt} ∙ c.key.ensures in
    written z s mid left c.give_back.new.seat c.args.change c.requires.none (subst (HasDirect z s mid) key_is (c.in_ok-hold.ensures {u = tt})) (subst (EndsDirect z left c.give_back.new.seat) key_is c.give_back.ensures) c.record-outcome.result
    (subst (λ (es : List Entry). Records z mid es (λ n. []) c.record-outcome.result left) (c.in_ok-write.ensures {u = tt}) c.record-outcome.ensures)

pub returns-clause-before_log : goal.returns-clause-before_log
returns-clause-before_log g c =
    let z = c.args.store.now in let s = c.args.seat.now in let mid = c.hold.new.seat in let left = c.record-outcome.new.seat in let key_is = c.in_ok-key.ensures {u = tt} ∙ c.key.ensures in
    written_before z s c.give_back.new.seat c.args.change c.record-outcome.result (returns-clause-answers g c)
    (device_left z s mid left c.give_back.new.seat c.args.change c.requires.none (subst (HasDirect z s mid) key_is (c.in_ok-hold.ensures {u = tt})) (subst (EndsDirect z left c.give_back.new.seat) key_is c.give_back.ensures) c.record-outcome.result
    (subst (λ (es : List Entry). Records z mid es (λ n. []) c.record-outcome.result left) (c.in_ok-write.ensures {u = tt}) c.record-outcome.ensures))
