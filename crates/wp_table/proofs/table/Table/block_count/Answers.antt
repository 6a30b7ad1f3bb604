use Rattle.std.proofs.Common.{length, ap, ◌∙◌, arith}
use Rattle.std.specs.Arc.{arc_value}
use Rattle.wp_table.specs.Table.{block_count}
use Rattle.wp_table.proofs.WalkLemmas.{blocks_are, some_blocks}
use Rattle.wp_table.proofs.table.Table.block_count.Goals as goal

pub returns-clause-blocks : goal.returns-clause-blocks
returns-clause-blocks c =
    c.len.ensures ∙ c.self.inside.index.ok.0 ∙ blocks_are c.self.inside.format (arc_value c.self.inside.bytes).items c.self.inside.count c.self.inside.index.items c.self.invariant ∙ ap (λ vs. block_count (length vs)) c.self.view_is

pub returns-clause-some : goal.returns-clause-some
returns-clause-some c =
    omega (arith, c.len.ensures, c.self.inside.index.ok.0, some_blocks c.self.inside.format (arc_value c.self.inside.bytes).items c.self.inside.count c.self.inside.index.items c.self.invariant)
