use Rattle.std.proofs.Common.{sym, ◌∙◌, arith}
use Rattle.wp_table.proofs.Lookup.{later_stands}
use Rattle.wp_table.proofs.table.Table.halve.Goals as goal

pub returns-then-begins_short-clause-stands : goal.returns-then-begins_short-clause-stands
returns-then-begins_short-clause-stands g c =
    later_stands c.args.self.now c.args.above c.args.key.now c.args.first c.args.behind _ c.begins_short.ensures.in_order c.requires.stands (sym c.begins_short.ensures.short ∙ c.if-begins_short.true) (omega (arith, c.requires.some))
