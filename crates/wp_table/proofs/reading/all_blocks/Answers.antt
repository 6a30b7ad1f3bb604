use Rattle.std.proofs.Common.{[], None}
use Rattle.std.specs.Option.{option_map}
use Rattle.std.proofs.lemmas.Result.{err_from_is_err_and}
use Rattle.wp_table.specs.Borrowed.{seen}
use Rattle.wp_table.specs.Table.{block_count}
use Rattle.wp_table.specs.Judging.{places_after}
use Rattle.wp_table.proofs.Loop.{block_read, block_fails, blocks_read}
use Rattle.wp_table.proofs.reading.all_blocks.Goals as goal

pub returns-in_err-last : goal.returns-in_err-last
returns-in_err-last c =
    let p = err_from_is_err_and c.from_residual-in_err-last.result c.from_residual-in_err-last.ensures.1 in
    rw (p.1, p.2) (block_fails c.args.format c.blocks_for-blocks.result c.loop.counter c.args.size c.args.flushed c.loop.left (option_map seen c.loop.last) c.loop.places.items c.loop.fields c.in_err-last.field-0.0
    (places_after c.args.format (block_count c.args.count) c.args.size c.args.flushed c.args.count None [] c.args.fields.now) c.loop-test.true (rw c.min-in_block.ensures at c.in_err-last.ensures) c.loop.invariant)

pub loop-preserved : goal.loop-preserved
loop-preserved c =
    rw (c.in_ok-push.ensures.items, c.place_of.ensures, c.min-in_block.ensures) (block_read c.args.format c.blocks_for-blocks.result c.loop.counter c.args.size c.args.flushed c.loop.left (option_map seen c.loop.last) c.loop.places.items c.loop.fields (option_map seen c.in_ok-last.last, c.last_of_block.new.fields)
    (places_after c.args.format (block_count c.args.count) c.args.size c.args.flushed c.args.count None [] c.args.fields.now) c.loop-test.true (rw c.min-in_block.ensures at c.in_ok-last.ensures) c.loop.invariant)

pub returns : goal.returns
returns c =
    blocks_read c.args.format c.blocks_for-blocks.result c.loop.counter c.args.size c.args.flushed c.loop.left (option_map seen c.loop.last) c.loop.places.items c.loop.fields
    (places_after c.args.format (block_count c.args.count) c.args.size c.args.flushed c.args.count None [] c.args.fields.now) c.loop-test.false c.loop.invariant
