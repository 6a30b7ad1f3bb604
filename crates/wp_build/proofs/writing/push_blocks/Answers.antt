use Rattle.std.proofs.lemmas.Grind.{common_steps}
use Rattle.std.proofs.Common.{◌≡◌, length, ap, ◌∙◌, arith}
use Rattle.std.specs.List.{list_all}
use Rattle.std.specs.Slice.Iter.{chunks_rest}
use Rattle.std.proofs.lemmas.Bool.{and_from}
use Rattle.std.proofs.lemmas.List.Folds.{list_all-append}
use Rattle.wp_fields.specs.declared.format.Format.TheVariants.{Two}
use Rattle.wp_table.specs.Table.{has_words}
use Rattle.wp_build.proofs.NextBlock.{next_block, pushed_more, placed_more}
use Rattle.wp_build.proofs.writing.push_blocks.Goals as goal

pub loop-block-preserved : goal.loop-block-preserved
loop-block-preserved c =
    let step = c.in-Some.ensures.steps.1 in
    let all = chunks_rest c.loop-block.block-iterator in
    let block = c.in-Some.block.now in
    let rest = chunks_rest c.next.new.self in
    let words = list_all-append has_words block rest in
    let next = next_block all block rest step.0 (rw c.loop-block.invariant.size at step.1) step.2 in
    let now = c.in_ok-push_block.ensures.pushed in
    let len : c.loop-block.out.len ≡ length c.loop-block.out.items = omega (arith, c.loop-block.out.ok.0) in
    record {
      size = c.in-Some.ensures.steps.0 ∙ c.loop-block.invariant.size;
      pushed = rw now (pushed_more Two c.loop-block.out.items _ all block rest next c.loop-block.invariant.pushed);
      placed = rw (now, c.in_ok-push.ensures.items, c.len.ensures, len) (placed_more Two c.loop-block.places.items c.loop-block.out.items _ all block rest next c.loop-block.invariant.placed);
      in_range = λ others. c.loop-block.invariant.in_range (ap (list_all has_words) step.0 ∙ words ∙ and_from _ _ c.in_ok-push_block.ensures.in_range others);
    }

pub returns-clause-pushed : goal.returns-clause-pushed
returns-clause-pushed c = grind (arith, common_steps)

pub returns-clause-placed : goal.returns-clause-placed
returns-clause-placed c = grind (arith, common_steps)

pub returns-clause-in_range : goal.returns-clause-in_range
returns-clause-in_range c = grind (arith, common_steps)
