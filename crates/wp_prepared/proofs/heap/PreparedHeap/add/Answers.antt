use Rattle.std.proofs.Common.{false, refl, sym, subst}
use Rattle.wp_prepared.specs.declared.heap.Queued.{Queued}
use Rattle.wp_prepared.specs.Least.{AreBelow}
use Rattle.wp_prepared.proofs.Queues.{standing-push, rising-push, first-push, last-push}
use Rattle.wp_prepared.proofs.heap.PreparedHeap.add.Goals as goal

pub invariant_of-self-2 : goal.invariant_of-self-2
invariant_of-self-2 c =
    let added : Queued = record { number = c.args.p; erased = false } in
    let items = c.self.inside.queue.items in
    let below = subst (λ s. AreBelow s c.args.p) (sym c.self.view_is) c.requires in
    rw c.in_ok-push_back.ensures.items record {
      rising = rising-push added refl items c.self.invariant.rising c.self.invariant.last below;
      first = first-push added refl items c.self.invariant.first;
      last = last-push added refl items;
    }

pub returns-clause-ok : goal.returns-clause-ok
returns-clause-ok c =
    let added : Queued = record { number = c.args.p; erased = false } in
    rw (c.in_ok-push_back.ensures.items, ← c.self.view_is) (standing-push added refl c.self.inside.queue.items)
