use Rattle.std.proofs.Common.{length, ap, ◌∙◌}
use Rattle.std.specs.Arc.{arc_value}
use Rattle.wp_table.proofs.WalkLemmas.{count_is}
use Rattle.wp_table.proofs.table.Table.count.Goals as goal

pub returns : goal.returns
returns c = count_is c.self.inside.format (arc_value c.self.inside.bytes).items c.self.inside.count c.self.inside.index.items c.self.invariant ∙ ap length c.self.view_is
