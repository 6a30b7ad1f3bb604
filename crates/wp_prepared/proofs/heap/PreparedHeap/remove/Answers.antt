use Rattle.std.proofs.Common.{true, refl, sym, ap, subst, ◌∙◌, arith}
use Rattle.std.specs.FinSet as set
use Rattle.wp_prepared.specs.declared.heap.Queued.{Queued}
use Rattle.wp_prepared.specs.Queue.{standing, AreRising, FirstStands}
use Rattle.wp_prepared.proofs.Queues.{at_within, number_at, standing-mark, rising-mark, standing-absent, standing-behind, rising-behind, standing-before, rising-before, first-before}
use Rattle.wp_prepared.proofs.heap.PreparedHeap.remove.Goals as goal

pub index_mut-requires : goal.index_mut-requires
index_mut-requires c = omega (arith, at_within c.self.inside.queue.items c.args.p c.in-Some.place c.in-Some.ensures, c.self.inside.queue.ok.0)

pub invariant_of-self : goal.invariant_of-self
invariant_of-self c =
    let items = c.self.inside.queue.items in
    let marked : Queued = record { number = c.index_mut.result.now.number; erased = true } in
    let number = ap (λ x. x.number) c.index_mut.ensures.value ∙ number_at items c.args.p c.in-Some.place c.index_mut.result.now c.in-Some.ensures in
    let front = c.trim_front.ensures in
    let back = c.trim_back.ensures in
    let rising = rising-behind front.gone c.trim_front.new.queue.items (subst AreRising front.is (rising-mark c.args.p marked refl number items c.in-Some.place c.self.invariant.rising c.in-Some.ensures)) in
    record {
      rising = rising-before c.trim_back.new.queue.items back.gone (subst AreRising back.is rising);
      first = first-before c.trim_back.new.queue.items back.gone (subst FirstStands back.is front.first);
      last = back.last;
    }

pub returns-in-Some : goal.returns-in-Some
returns-in-Some c =
    let items = c.self.inside.queue.items in
    let marked : Queued = record { number = c.index_mut.result.now.number; erased = true } in
    let number = ap (λ x. x.number) c.index_mut.ensures.value ∙ number_at items c.args.p c.in-Some.place c.index_mut.result.now c.in-Some.ensures in
    let front = c.trim_front.ensures in
    let back = c.trim_back.ensures in
    sym (standing-before c.trim_back.new.queue.items back.gone back.erased)
    ∙ ap standing (sym back.is)
    ∙ sym (standing-behind front.gone c.trim_front.new.queue.items front.erased)
    ∙ ap standing (sym front.is)
    ∙ standing-mark c.args.p marked refl number items c.in-Some.place c.self.invariant.rising c.in-Some.ensures
    ∙ ap (λ s. set.remove s c.args.p) c.self.view_is

pub returns-in_default : goal.returns-in_default
returns-in_default c = rw (← c.self.view_is) (standing-absent c.self.inside.queue.items c.args.p c.in_default.ensures)
