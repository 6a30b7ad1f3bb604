use Rattle.std.proofs.Common.{◌≤◌, ◌⊎◌, inl, inr, sym, ◌∙◌, length, arith}
use Rattle.wp_model.proofs.WordOrder.{order_end}
use Rattle.wp_model.proofs.word.order.Goals.{then-loop-i-test+else-i-b, else-loop-i-test}
use Rattle.wp_model.proofs.word.order.Goals as goal

pub returns : goal.returns
returns c =
    let a = c.args.a.now in
    let b = c.args.b.now in
    let i = c.loop-i.i in
    let ends : (length a ≤ i) ⊎ (length b ≤ i) = elim c.loop-i-test.branch [
      | then-loop-i-test+else-i-b w ↦ inr (omega (arith, w.if-i-b.false))
      | else-loop-i-test w ↦ inl (omega (arith, w.loop-i-test.false))
    ] in
    c.cmp-2.ensures ∙ sym (order_end a b i c.loop-i.invariant.in_a c.loop-i.invariant.in_b ends) ∙ c.loop-i.invariant.rest
