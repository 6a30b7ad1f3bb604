use Rattle.std.proofs.Common.{◌≡◌, ◌+◌, ◌-◌, ◌*◌, ◌^◌, ◌≤◌, length, subst, sym, ap, ◌∙◌, arith}
use Rattle.std.specs.Arc.{arc_value}
use Rattle.wp_model.specs.Versions.{AreInOrder}
use Rattle.wp_table.specs.Table.{block_count}
use Rattle.wp_table.specs.Walk.{StandsFrom}
use Rattle.wp_table.proofs.Halving.{one_more, halved_again, cost_again}
use Rattle.wp_table.proofs.WalkLemmas.{indexed_in_order}
use Rattle.wp_table.proofs.table.Table.block_before.Goals as goal

pub loop-behind-preserved : goal.loop-behind-preserved
loop-behind-preserved g c =
    let before = c.loop-behind.invariant in
    let n = c.loop-behind.behind - c.loop-behind.first - 1 in
    let most = block_count (length c.args.self.now) in
    let power = 2 ^ (c.loop-behind.steps - c.args.steps.now) in
    let half = c.halve-half.result.1 - c.halve-half.result.0 - 1 in
    let twice = ap (λ s. 2 ^ (s - c.args.steps.now)) c.halve-half.ensures.step ∙ one_more c.loop-behind.steps c.args.steps.now before.later in
    record {
      stands = c.halve-half.ensures.stands;
      later = omega (arith, c.halve-half.ensures.step, before.later);
      halved = subst (λ p. p * half ≤ most) (sym twice) (halved_again power n half most before.halved c.halve-half.ensures.half);
      cost = subst (λ p. p ≤ 2 * most + 1) (sym twice) (cost_again power n most before.halved (omega (arith, c.loop-behind-test.true)));
    }

pub returns-clause-stands : goal.returns-clause-stands
returns-clause-stands g c =
    let before = c.loop-behind.invariant.stands in
    let last : c.loop-behind.behind ≡ c.loop-behind.first + 1 = omega (arith, before.later, c.loop-behind-test.false) in
    subst (StandsFrom c.args.self.now c.args.above c.args.key.now c.loop-behind.first) last before

pub returns-clause-in_order : goal.returns-clause-in_order
returns-clause-in_order g c = subst AreInOrder c.self.view_is (indexed_in_order c.self.inside.format (arc_value c.self.inside.bytes).items c.self.inside.count c.self.inside.index.items c.self.invariant)
