use Rattle.std.proofs.Common.{◌*◌, arith}
use Rattle.wp_table.specs.declared.layout.TheConstants.{BLOCK}
use Rattle.wp_table.proofs.Lookup.{key_stands}
use Rattle.wp_table.proofs.table.Table.first_block.Goals as goal

pub returns-clause-within : goal.returns-clause-within
returns-clause-within g c = omega (arith, c.block_before.ensures.stands.within)

pub returns-clause-from : goal.returns-clause-from
returns-clause-from g c = key_stands (c.block_before.result * BLOCK) c.args.self.now c.args.key.now c.block_before.ensures.in_order c.block_before.ensures.stands.from

pub returns-clause-behind : goal.returns-clause-behind
returns-clause-behind g c = c.block_before.ensures.stands.not_short
