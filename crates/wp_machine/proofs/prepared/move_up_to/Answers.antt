use Rattle.std.proofs.Common.{◌≡◌, rules, not, nat_le, ap, ◌∙◌, ◌++◌, filter}
use Rattle.std.specs.FinSet as set
use Rattle.std.proofs.lemmas.Fn.{filter_same}
use Rattle.std.proofs.lemmas.List.{take_all}
use Rattle.wp_machine.proofs.Maps.{set_of, set_retained, set_joined}
use Rattle.wp_machine.proofs.prepared.move_up_to.Goals as goal

pub returns-clause-heap : goal.returns-clause-heap
returns-clause-heap c = ap set_of (filter_same _ (λ q. not (nat_le q c.args.m)) _ (λ q b f called. search rules) _ _ c.retain.ensures.filtered) ∙ set_retained (λ q. not (nat_le q c.args.m)) c.args.heap.now.items

pub returns-clause-delayed : goal.returns-clause-delayed
returns-clause-delayed c =
    let all = take_all c.loop-p.p-index c.deref-p-items.result.now c.loop-p-test.false in
    let items : c.loop-p.delayed.items ≡ c.args.delayed.now.items ++ filter (λ p. nat_le p c.args.m) c.args.heap.now.items = rw (all, c.deref-p-items.ensures.value) at c.loop-p.invariant in
    ap set_of items ∙ set_joined c.args.delayed.now.items (filter (λ p. nat_le p c.args.m) c.args.heap.now.items) ∙ ap (set.union (set_of c.args.delayed.now.items)) (set_retained (λ p. nat_le p c.args.m) c.args.heap.now.items)
