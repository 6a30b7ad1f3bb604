use Rattle.std.proofs.Common.{filter, sym, ap, subst, ◌∙◌}
use Rattle.wp_model.specs.Versions.{AreInOrder}
use Rattle.wp_memtable.specs.Memtable.{numbered_of}
use Rattle.wp_memtable.specs.Bounds.{is_between}
use Rattle.wp_memtable.proofs.Between.{numbered_filter}
use Rattle.wp_memtable.proofs.Listed.{in_order-versions_in, numbered_of-versions_in, versions_at}
use Rattle.wp_memtable.proofs.memtable.Memtable.versions_between.Goals as goal

pub returns-clause-in_order : goal.returns-clause-in_order
returns-clause-in_order c = subst AreInOrder c.self.view_is (in_order-versions_in _ c.self.invariant.0)

pub returns-clause-found : goal.returns-clause-found
returns-clause-found c =
    let all = ap versions_at c.get.ensures.value ∙ sym (numbered_of-versions_in _ c.args.key.now c.self.invariant.0.keys) ∙ ap (numbered_of c.args.key.now) c.self.view_is in
    c.new.ensures ∙ ap (filter (λ p. is_between c.args.bounds p.0)) all ∙ sym (numbered_filter (is_between c.args.bounds) c.args.key.now c.args.self.now)
