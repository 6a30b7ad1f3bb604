use Rattle.std.proofs.Common.{◌+◌, ◌*◌, false, length, drop, ap, ◌∙◌, arith}
use Rattle.std.specs.List.{list_all}
use Rattle.std.specs.Str.{bytes_eq}
use Rattle.wp_table.specs.declared.layout.TheConstants.{BLOCK}
use Rattle.wp_table.specs.Borrowed.{skip_short, front_with}
use Rattle.wp_table.specs.Table.{has_words, block_count}
use Rattle.wp_table.proofs.Halving.{more_steps}
use Rattle.wp_table.proofs.Lookup.{found_from, block_skipped}
use Rattle.wp_table.proofs.Parts.{list_all-filter}
use Rattle.wp_table.proofs.table.Table.versions.Goals as goal

pub returns-clause-found : goal.returns-clause-found
returns-clause-found g c =
    c.of.ensures.found
    ∙ ap (λ k. front_with k (skip_short false k c.from_block.result)) c.bytes.ensures.value
    ∙ ap (λ vs. front_with c.args.key.now (skip_short false c.args.key.now vs)) c.from_block.ensures.versions
    ∙ found_from (c.first_block-block.result * BLOCK) c.args.self.now c.args.key.now c.from_block.ensures.in_order c.first_block-block.ensures.from

pub returns-clause-in_range : goal.returns-clause-in_range
returns-clause-in_range g c =
    ap (list_all has_words) (returns-clause-found g c) ∙ list_all-filter has_words (λ v. bytes_eq v.key c.args.key.now) c.args.self.now c.from_block.ensures.in_range

pub returns-clause-cost : goal.returns-clause-cost
returns-clause-cost g c =
    let key = c.args.key.now in
    let rest = drop (c.first_block-block.result * BLOCK) c.args.self.now in
    let skipped = block_skipped false c.first_block-block.result c.args.self.now key c.first_block-block.ensures.behind in
    let scanned = rw (c.bytes.ensures.value, c.from_block.ensures.versions) at c.of.ensures.cost in
    more_steps (BLOCK + 1) c.args.steps.now c.first_block-block.new.steps c.of.new.steps (2 * block_count (length c.args.self.now) + 1) c.first_block-block.ensures.cost (omega (arith, skipped, scanned))
