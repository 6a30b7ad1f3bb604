use Rattle.std.proofs.Common.{◌≡◌, [], ◌∷◌, vec_len, subst, sym, ◌∙◌, arith}
use Rattle.std.proofs.lemmas.List.{nil_from_length}
use Rattle.wp_core.proofs.HistoryLaws.{is_equal}
use Rattle.wp_open_txns.specs.Txn.{PreparedState}
use Rattle.wp_answers.specs.Settling.{GivesUpTo}
use Rattle.wp_answers.proofs.Taking.{first_out, given_up_none, given_up_more}
use Rattle.wp_answers.proofs.settling.leave_all.Goals as goal

pub loop-txns-init : goal.loop-txns-init
loop-txns-init g c = given_up_none c.args.store.now c.args.seat.now c.args.txns.items c.requires

pub leave-requires-clause-free : goal.leave-requires-clause-free
leave-requires-clause-free g c = c.loop-txns.invariant.holds.free

pub leave-requires-clause-prepared : goal.leave-requires-clause-prepared
leave-requires-clause-prepared g c =
    let xs = c.loop-txns.txns.items in let x : PreparedState = c.remove-txn.result in let long = c.remove-txn.ensures.len in
    let is : xs ≡ x ∷ c.remove-txn.new.self.items = first_out xs x (omega (arith, long)) ∙ (λ i. sym c.remove-txn.ensures.value i ∷ sym c.remove-txn.ensures.items i) in
    (subst (GivesUpTo c.args.store.now c.args.seat.now c.loop-txns.seat) is c.loop-txns.invariant).holds.have.0.0

pub loop-txns-preserved : goal.loop-txns-preserved
loop-txns-preserved g c =
    let z = c.args.store.now in let s = c.loop-txns.seat in
    let xs = c.loop-txns.txns.items in let x : PreparedState = c.remove-txn.result in let others = c.remove-txn.new.self.items in let long = c.remove-txn.ensures.len in
    let is : xs ≡ x ∷ others = first_out xs x (omega (arith, long)) ∙ (λ i. sym c.remove-txn.ensures.value i ∷ sym c.remove-txn.ensures.items i) in
    given_up_more z s c.leave.new.seat x c.leave.ensures.gives_up c.args.seat.now others c.leave.ensures.same (subst (GivesUpTo z c.args.seat.now s) is c.loop-txns.invariant)

pub returns : goal.returns
returns g c =
    let left = is_equal (vec_len c.loop-txns.txns) 0 (sym (c.loop-txns-test.ensures {u = tt})) in
    let none : c.loop-txns.txns.items ≡ [] = nil_from_length c.loop-txns.txns.items (omega (arith, left)) in
    subst (GivesUpTo c.args.store.now c.args.seat.now c.loop-txns.seat) none c.loop-txns.invariant
