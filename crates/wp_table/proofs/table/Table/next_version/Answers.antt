use Rattle.std.proofs.Common.{◌+◌, ◌*◌, length, ap, ◌∙◌, arith}
use Rattle.wp_table.specs.declared.layout.TheConstants.{BLOCK}
use Rattle.wp_table.specs.Borrowed.{skip_short}
use Rattle.wp_table.specs.Table.{block_count}
use Rattle.wp_table.proofs.Halving.{more_steps}
use Rattle.wp_table.proofs.Lookup.{next_is, block_skipped}
use Rattle.wp_table.proofs.table.Table.next_version.Goals as goal

pub returns-clause-found : goal.returns-clause-found
returns-clause-found g c =
    let found = c.first_from.ensures.found ∙ ap (λ k. skip_short c.args.above k c.from_block-rest.result) c.bytes.ensures.value ∙ ap (skip_short c.args.above c.args.key.now) c.from_block-rest.ensures.versions in
    next_is c.args.above c.args.key.now c.first_from.result c.first_from.new.rest (c.block_before-block.result * BLOCK) c.args.self.now found c.block_before-block.ensures.stands.from

pub returns-clause-cost : goal.returns-clause-cost
returns-clause-cost g c =
    let skipped = block_skipped c.args.above c.block_before-block.result c.args.self.now c.args.key.now c.block_before-block.ensures.stands.not_short in
    let scanned = rw (c.bytes.ensures.value, c.from_block-rest.ensures.versions) at c.first_from.ensures.cost in
    more_steps (BLOCK + 1) c.args.steps.now c.block_before-block.new.steps c.first_from.new.steps (2 * block_count (length c.args.self.now) + 1) c.block_before-block.ensures.cost (omega (arith, skipped, scanned))
