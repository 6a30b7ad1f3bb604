use Rattle.std.proofs.Common.{◌&&◌, ◌||◌, nat_lt, nat_le, ap, ◌∙◌, arith}
use Rattle.std.specs.FinSet as set
use Rattle.wp_prepared.proofs.Moves.{above_stays, delayed_grows, len-without}
use Rattle.wp_prepared.proofs.prepared.Prepared.advance.Goals as goal

pub insert-requires : goal.insert-requires
insert-requires c = omega (arith, len-without _ _ c.in-Some.ensures.was_there)

pub loop-p-smaller : goal.loop-p-smaller
loop-p-smaller c =
    let e = c.in-Some.ensures in
    omega (arith, len-without _ _ e.was_there, ap set.len e.popped)

pub loop-p-preserved : goal.loop-p-preserved
loop-p-preserved c =
    let e = c.in-Some.ensures in
    let h = c.loop-p.self-inside.heap in
    let d = c.loop-p.self-inside.delayed.numbers in
    let m = c.args.m in
    record {
      heap = λ q. ap (λ s. set.contains s q && nat_lt m q) e.popped ∙ above_stays h c.in-Some.p m e.up_to q ∙ c.loop-p.invariant.heap q;
      delayed = λ q.
          ap (λ s. set.contains s q || (set.contains c.pop_up_to.new.self q && nat_le q m)) c.insert.ensures.numbers
          ∙ ap (λ s. set.contains (set.insert d c.in-Some.p) q || (set.contains s q && nat_le q m)) e.popped
          ∙ delayed_grows h d c.in-Some.p m e.was_there e.up_to q
          ∙ c.loop-p.invariant.delayed q;
      delayed_commits = c.insert.ensures.commits ∙ c.loop-p.invariant.delayed_commits;
      room = omega (arith, len-without _ _ e.was_there, ap set.len e.popped);
    }
