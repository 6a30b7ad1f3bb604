use Rattle.std.proofs.Common.{sym, ap, subst, ◌∙◌}
use Rattle.std.specs.FinSet.{remove}
use Rattle.wp_prepared.specs.Least.{IsLeast}
use Rattle.wp_prepared.specs.Queue.{standing, AreRising, LastStands}
use Rattle.wp_prepared.proofs.Queues.{standing-pop, rising-pop, last-pop, standing-behind, rising-behind, last-behind}
use Rattle.wp_prepared.proofs.heap.PreparedHeap.pop_up_to.Goals as goal

pub invariant_of-self : goal.invariant_of-self
invariant_of-self c =
    let trimmed = c.trim_front.ensures in
    let is = sym c.pop_front.ensures.rest ∙ trimmed.is in
    record {
      rising = rising-behind trimmed.gone c.trim_front.new.queue.items (subst AreRising is (rising-pop c.self.inside.queue.items c.self.invariant.rising));
      first = trimmed.first;
      last = last-behind trimmed.gone c.trim_front.new.queue.items (subst LastStands is (last-pop c.self.inside.queue.items c.self.invariant.last));
    }

pub returns-clause-popped : goal.returns-clause-popped
returns-clause-popped c =
    let trimmed = c.trim_front.ensures in
    let least = subst (λ s. IsLeast s c.in_ok-least.least) (sym c.self.view_is) c.in_ok-least.ensures in
    sym (standing-behind trimmed.gone c.trim_front.new.queue.items trimmed.erased)
    ∙ ap standing (sym trimmed.is ∙ c.pop_front.ensures.rest)
    ∙ standing-pop c.self.inside.queue.items c.in_ok-least.least c.self.invariant.rising c.self.invariant.first least
    ∙ ap (λ s. remove s c.in_ok-least.least) c.self.view_is
