use Rattle.std.proofs.Common.{◌≡◌, ◌∷◌, sym, subst, ◌∙◌, arith}
use Rattle.basilcorbel.specs.Groups.{ArePrepared}
use Rattle.basilcorbel.specs.Txn.{PreparedState}
use Rattle.basilcorbel.proofs.Calls.{first_out, others_prepared}
use Rattle.embedded.proofs.settling.leave_all.Goals as goal

pub leave-requires-clause-prepared : goal.leave-requires-clause-prepared
leave-requires-clause-prepared g c =
    let xs = c.loop-txns.txns.items in let x : PreparedState = c.remove-txn.result in let long = c.remove-txn.ensures.len in
    let is : xs ≡ x ∷ c.remove-txn.new.self.items = first_out xs x (omega (arith, long)) ∙ (λ i. sym c.remove-txn.ensures.value i ∷ sym c.remove-txn.ensures.items i) in
    (subst (ArePrepared c.loop-txns.seat) is c.loop-txns.invariant.1).0.0

pub loop-txns-preserved : goal.loop-txns-preserved
loop-txns-preserved g c =
    let xs = c.loop-txns.txns.items in let x : PreparedState = c.remove-txn.result in let others = c.remove-txn.new.self.items in let long = c.remove-txn.ensures.len in
    let is : xs ≡ x ∷ others = first_out xs x (omega (arith, long)) ∙ (λ i. sym c.remove-txn.ensures.value i ∷ sym c.remove-txn.ensures.items i) in
    let goes = c.leave.ensures.gives_up in let alone = c.loop-txns.invariant.0 in (
      record { free = goes.free; first = goes.same_by ∙ alone.first; made = goes.made ∙ alone.made; joined = goes.joined ∙ alone.joined },
      others_prepared c.args.store.now c.loop-txns.seat c.leave.new.seat x others goes (subst (ArePrepared c.loop-txns.seat) is c.loop-txns.invariant.1),
    )
