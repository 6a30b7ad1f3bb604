use Rattle.std.proofs.Common.{◌≡◌, true, subst, ◌∙◌}
use Rattle.std.specs.Arc.{arc_value}
use Rattle.std.specs.List.{list_all}
use Rattle.wp_model.specs.Versions.{AreInOrder}
use Rattle.wp_table.specs.Table.{has_words}
use Rattle.wp_table.proofs.WalkLemmas.{has_head, indexed_in_order, indexed_in_range}
use Rattle.wp_table.proofs.table.Table.all.Goals as goal

pub at-requires : goal.at-requires
at-requires c = rw (c.deref-2.ensures.value, c.deref.ensures) (has_head c.self.inside.format (arc_value c.self.inside.bytes).items c.self.inside.count c.self.inside.index.items c.self.invariant).0

pub returns-clause-all : goal.returns-clause-all
returns-clause-all c = (rw (c.deref-2.ensures.value, c.deref.ensures) at c.at.ensures) ∙ c.self.view_is

pub returns-clause-in_range : goal.returns-clause-in_range
returns-clause-in_range c =
    subst (λ vs. list_all has_words vs ≡ true) c.self.view_is (indexed_in_range c.self.inside.format (arc_value c.self.inside.bytes).items c.self.inside.count c.self.inside.index.items c.self.invariant)

pub returns-clause-in_order : goal.returns-clause-in_order
returns-clause-in_order c = subst AreInOrder c.self.view_is (indexed_in_order c.self.inside.format (arc_value c.self.inside.bytes).items c.self.inside.count c.self.inside.index.items c.self.invariant)
