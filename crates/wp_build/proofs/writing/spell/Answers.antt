use Rattle.std.proofs.Common.{◌≡◌, true, ◌++◌, ◌^◌, length, refl, sym, ap, ◌∙◌, arith, ◌&&◌}
use Rattle.std.specs.Int.{w64, to_be_bytes}
use Rattle.std.specs.List.{flat_map, list_all}
use Rattle.std.proofs.lemmas.List.{length-append}
use Rattle.wp_fields.specs.declared.format.Format.TheVariants.{Two}
use Rattle.wp_table.specs.Table.{head_bytes, block_bytes, blocks_of, places_from, table_bytes, has_number, is_flushed, has_words, IsTableIn}
use Rattle.wp_table.specs.Walk.{stored_versions}
use Rattle.wp_table.proofs.Parts.{list_all-both}
use Rattle.wp_build.proofs.Spelled.{from_head, all_bytes, all_flushed, all_fit, indexed}
use Rattle.wp_table.proofs.WalkLemmas.{stored_is}
use Rattle.wp_build.proofs.writing.spell.Goals as goal

pub returns-clause-table : goal.returns-clause-table
returns-clause-table c = λ flushed below.
    let versions = c.args.versions.now in
    let same = c.as_slice-versions.ensures.value in
    let words : list_all has_words versions ≡ true = ap (list_all has_words) (sym same) ∙ c.in_ok-push_blocks.ensures.in_range in
    let blocks = flat_map (block_bytes Two) (blocks_of c.as_slice-versions.result.now) in
    let lengths = ap length c.in_ok-push_blocks.ensures.pushed ∙ length-append c.push_head.new.out.items blocks in
    let head = ap length c.in_ok-push_head.ensures ∙ length-append c.new-out.result.items (head_bytes Two c.args.id (length c.as_slice-versions.result.now)) in
    let is : IsTableIn Two c.args.id flushed versions = record {
      some = c.requires.some;
      in_order = c.as_slice-versions.ensures.in_order;
      in_range = list_all-both has_words (λ v. has_number Two v && is_flushed flushed v) versions words (list_all-both (has_number Two) (is_flushed flushed) versions (all_fit versions c.requires.numbered) below);
      id_fits = omega (arith, c.ranges.id.fits);
      places_fit = omega (arith, lengths, head, c.push_blocks.new.out.ok, c.push_blocks.new.out.small, ap (λ vs. length (flat_map (block_bytes Two) (blocks_of vs))) same);
    } in
    (Two, is, refl)

pub returns-clause-bytes : goal.returns-clause-bytes
returns-clause-bytes c =
    let versions = c.as_slice-versions.result.now in
    let end : c.len-end.result ≡ length c.push_blocks.new.out.items = omega (arith, c.len-end.ensures, c.push_blocks.new.out.ok.0) in
    let placed = from_head Two c.args.id (length versions) c.new-out.result.items c.in_ok-places.places.items c.push_head.new.out.items c.push_blocks.new.places.items c.len-end.result (length c.push_blocks.new.out.items) (blocks_of versions) c.new-out.ensures.items c.in_ok-places.ensures.items end c.in_ok-push_head.ensures c.in_ok-push_blocks.ensures.placed in
    let pushed : c.push_places.new.out.items ≡ c.push_blocks.new.out.items ++ flat_map (to_be_bytes w64) c.push_blocks.new.places.items =
    c.in_ok-push_places.ensures ∙ ap (λ ps. c.push_blocks.new.out.items ++ flat_map (to_be_bytes w64) ps) c.deref.ensures.value in
    c.shrink_to_fit.ensures.items
    ∙ all_bytes Two c.args.id versions _ _ _ _ _ _ _ c.new-out.ensures.items c.in_ok-push_head.ensures c.in_ok-push_blocks.ensures.pushed pushed c.in_ok-push_u64.ensures.pushed placed
    ∙ ap (table_bytes Two c.args.id) c.as_slice-versions.ensures.value

pub returns-clause-indexed : goal.returns-clause-indexed
unfolding returns-clause-table
returns-clause-indexed c =
    let versions = c.as_slice-versions.result.now in
    let end : c.len-end.result ≡ length c.push_blocks.new.out.items = omega (arith, c.len-end.ensures, c.push_blocks.new.out.ok.0) in
    let placed = from_head Two c.args.id (length versions) c.new-out.result.items c.in_ok-places.places.items c.push_head.new.out.items c.push_blocks.new.places.items c.len-end.result (length c.push_blocks.new.out.items) (blocks_of versions) c.new-out.ensures.items c.in_ok-places.ensures.items end c.in_ok-push_head.ensures c.in_ok-push_blocks.ensures.placed in
    indexed Two c.args.id c.args.versions.now _ _ _ c.len-end.result c.requires.numbered (λ flushed below. (returns-clause-table c flushed below).1) (returns-clause-bytes c) refl (placed ∙ ap (λ vs. places_from Two 25 (blocks_of vs)) c.as_slice-versions.ensures.value)

pub returns-clause-stored : goal.returns-clause-stored
unfolding returns-clause-table
returns-clause-stored c =
    let versions = c.args.versions.now in
    ap (λ bytes. stored_versions Two bytes (length versions)) (returns-clause-bytes c) ∙ stored_is Two c.args.id (2 ^ 56) versions (returns-clause-table c (2 ^ 56) (all_flushed versions c.requires.numbered)).1
