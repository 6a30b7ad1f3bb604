use Rattle.std.proofs.Common.{◌≡◌, true, take, ◌++◌, length}
use Rattle.std.specs.Int.{w16, to_be_bytes}
use Rattle.std.specs.List.{flat_map, list_all}
use Rattle.wp_fields.specs.declared.format.Format.TheVariants.{Two}
use Rattle.wp_table.specs.Table.{version_bytes, has_words}
use Rattle.wp_build.proofs.writing.push_block.Given as goal

abbrev pub invariant-loop-version : goal.invariant-loop-version
invariant-loop-version l = record {
  pushed : l.out.items ≡ l.fn.out.items ++ (to_be_bytes w16 (length l.block) ++ flat_map (version_bytes Two) (take l.version-index l.block));
  in_range : list_all has_words (take l.version-index l.block) ≡ true;
}
