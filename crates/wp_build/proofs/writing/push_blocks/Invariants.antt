use Rattle.std.proofs.Common.{◌≡◌, true, ◌++◌, length}
use Rattle.std.specs.List.{flat_map, list_all}
use Rattle.std.specs.Slice.Iter.{chunks_rest, chunks_size}
use Rattle.wp_fields.specs.declared.format.Format.TheVariants.{Two}
use Rattle.wp_table.specs.declared.layout.TheConstants.{BLOCK}
use Rattle.wp_table.specs.Table.{block_bytes, blocks_of, places_from, has_words}
use Rattle.wp_build.proofs.writing.push_blocks.Given as goal

abbrev pub invariant-loop-block : goal.invariant-loop-block
invariant-loop-block l = record {
  size : chunks_size l.block-iterator ≡ BLOCK;
  pushed : l.out.items ++ flat_map (block_bytes Two) (blocks_of (chunks_rest l.block-iterator)) ≡ l.fn.out.items ++ flat_map (block_bytes Two) (blocks_of l.versions);
  placed : l.places.items ++ places_from Two (length l.out.items) (blocks_of (chunks_rest l.block-iterator)) ≡ l.fn.places.items ++ places_from Two (length l.fn.out.items) (blocks_of l.versions);
  in_range : list_all has_words (chunks_rest l.block-iterator) ≡ true → list_all has_words l.versions ≡ true;
}
