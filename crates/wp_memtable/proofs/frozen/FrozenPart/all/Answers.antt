use Rattle.std.proofs.Common.{◌≡◌, List, ap, subst, ◌∙◌}
use Rattle.std.proofs.lemmas.Result.{IfOk-weaker}
use Rattle.wp_model.specs.declared.version.Version.{Version}
use Rattle.wp_model.specs.Versions.{AreInOrder}
use Rattle.wp_memtable.specs.Bounds.{between}
use Rattle.wp_memtable.proofs.Between.{in_order_between}
use Rattle.wp_memtable.proofs.frozen.FrozenPart.all.Goals as goal

pub returns-clause-all : goal.returns-clause-all
returns-clause-all c =
    IfOk-weaker c.all_between.result _ (λ (versions : List Version). versions ≡ c.args.self.now) (λ versions is. is ∙ ap (between c.self.inside.bounds) c.deref.ensures ∙ c.self.view_is) c.all_between.ensures.all

pub returns-clause-in_order : goal.returns-clause-in_order
returns-clause-in_order c = subst AreInOrder (ap (between c.self.inside.bounds) c.deref.ensures ∙ c.self.view_is) (in_order_between c.self.inside.bounds _ c.all_between.ensures.in_order)
