use Rattle.std.proofs.Common.{ap, subst, ◌∙◌}
use Rattle.wp_model.specs.Versions.{AreInOrder}
use Rattle.wp_memtable.specs.Bounds.{between}
use Rattle.wp_memtable.specs.Memtable.{numbered_of}
use Rattle.wp_memtable.proofs.Between.{in_order_between}
use Rattle.wp_memtable.proofs.frozen.FrozenPart.versions.Goals as goal

pub returns-clause-found : goal.returns-clause-found
returns-clause-found c = c.versions_between.ensures.found ∙ ap (λ vs. numbered_of c.args.key.now (between c.self.inside.bounds vs)) c.deref.ensures ∙ ap (numbered_of c.args.key.now) c.self.view_is

pub returns-clause-in_order : goal.returns-clause-in_order
returns-clause-in_order c = subst AreInOrder (ap (between c.self.inside.bounds) c.deref.ensures ∙ c.self.view_is) (in_order_between c.self.inside.bounds _ c.versions_between.ensures.in_order)
