use Rattle.std.proofs.Common.{◌≤◌, List, ap, length, sym, ◌∙◌, arith}
use Rattle.wp_model.specs.declared.entry.Entry.{Entry}
use Rattle.wp_cover.specs.Sources.{all_of}
use Rattle.wp_cover.proofs.Together.{below_more}
use Rattle.wp_cover.proofs.covering.gives_later.Goals as goal

pub returns-then-not-branch : goal.returns-then-not-branch
returns-then-not-branch c = (
  λ no. absurd cc,
  λ all.
      let within : c.loop-n.n ≤ length c.args.decisions.now = omega (arith, c.loop-n-test.true, c.published-last.ensures.value, ap (λ (h : List Entry). length h) c.requires.same) in
      sym c.if-not-branch.true ∙ c.in_ok-gives_store.ensures.1 (λ key. all key c.loop-n.n c.loop-n.invariant.from within),
)

pub loop-n-preserved : goal.loop-n-preserved
loop-n-preserved c = record { from = omega (arith, c.loop-n.invariant.from); below = below_more (all_of c.args.sources.now) c.args.decisions.now c.args.from c.loop-n.n (c.in_ok-gives_store.ensures.0 c.if-not-branch.false) c.loop-n.invariant.below }
