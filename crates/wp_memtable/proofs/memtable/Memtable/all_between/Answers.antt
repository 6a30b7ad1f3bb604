use Rattle.std.proofs.Common.{sym, subst, ◌∙◌, ap, ◌++◌, arith}
use Rattle.std.proofs.lemmas.Grind.{common_steps}
use Rattle.std.proofs.lemmas.List.{append-nil}
use Rattle.wp_model.specs.Versions.{AreInOrder}
use Rattle.wp_memtable.specs.Bounds.{between}
use Rattle.wp_memtable.specs.Memtable.{versions_in}
use Rattle.wp_memtable.proofs.Between.{in_order_between}
use Rattle.wp_memtable.proofs.Listed.{in_order-versions_in}
use Rattle.wp_memtable.proofs.memtable.Memtable.all_between.Goals as goal

pub returns-in_err-list-clause-in_order : goal.returns-in_err-list-clause-in_order
returns-in_err-list-clause-in_order c = subst AreInOrder c.self.view_is (in_order-versions_in _ c.self.invariant.0)

pub returns-in_err-copy_under-clause-in_order : goal.returns-in_err-copy_under-clause-in_order
returns-in_err-copy_under-clause-in_order c = subst AreInOrder c.self.view_is (in_order-versions_in _ c.self.invariant.0)

pub of-requires : goal.of-requires
of-requires c =
    let none = c.in-None.ensures.steps.0 in
    let all = sym (append-nil c.loop-key.list.items) ∙ ap (λ es. c.loop-key.list.items ++ between c.args.bounds (versions_in es)) (sym none) ∙ c.loop-key.invariant in
    subst AreInOrder (sym all) (in_order_between c.args.bounds _ (in_order-versions_in _ c.self.invariant.0))

pub returns-clause-in_order : goal.returns-clause-in_order
returns-clause-in_order c = subst AreInOrder c.self.view_is (in_order-versions_in _ c.self.invariant.0)

pub loop-key-preserved : goal.loop-key-preserved
loop-key-preserved c = grind (arith, common_steps)

pub returns-clause-all : goal.returns-clause-all
returns-clause-all c = grind (arith, common_steps)
