use Rattle.std.proofs.Common.{not, sym, ap, ◌∙◌, arith}
use Rattle.wp_prepared.proofs.Queues.{at_within, contains_at, none_apart}
use Rattle.wp_prepared.proofs.heap.PreparedHeap.contains.Goals as goal

pub index-requires : goal.index-requires
index-requires c = omega (arith, at_within c.self.inside.queue.items c.args.p c.in-Some.place c.in-Some.ensures, c.self.inside.queue.ok.0)

pub returns-in-Some : goal.returns-in-Some
returns-in-Some c =
    let there = contains_at c.self.inside.queue.items c.args.p c.in-Some.place c.index.result.now c.self.invariant.rising c.in-Some.ensures in
    rw (← c.self.view_is) (ap (λ x. not x.erased) c.index.ensures ∙ sym there)

pub returns-in-None : goal.returns-in-None
returns-in-None c = rw (← c.self.view_is) (sym (none_apart c.self.inside.queue.items c.args.p c.in-None.ensures))
