-- Writing one block after the other.
use Rattle.std.proofs.Common.{◌≡◌, ℕ, suc, ◌+◌, ◌-◌, ◌<◌, min, List, [], ◌∷◌, ◌++◌, length, take, drop, refl, sym, ap, ◌∙◌, append_assoc, arith}
use Rattle.std.specs.List.{flat_map}
use Rattle.std.proofs.lemmas.List.{length-append}
use Rattle.wp_model.specs.declared.version.Version.{Version}
use Rattle.wp_fields.specs.declared.format.Format.{Format}
use Rattle.wp_table.specs.declared.layout.TheConstants.{BLOCK}
use Rattle.wp_table.specs.Table.{block_bytes, block_count, blocks_in, blocks_of, places_from}
use Rattle.wp_table.proofs.BlockLemmas.{one_block, one_block_less}

-- the next block is that of these versions
pub next_block : (all block rest : List Version) → all ≡ block ++ rest → length block ≡ min BLOCK (length all) → 0 < length all → blocks_of all ≡ block ∷ blocks_of rest
next_block all block rest is counted some =
    let lengths : length all ≡ length block + length rest = ap length is ∙ length-append block rest in
    let first : length block ≡ min (length all) BLOCK = omega (arith, counted) in
    let left : length rest ≡ length all - min (length all) BLOCK = omega (arith, lengths, first) in
    let cut = one_block block rest (length all) first left in
    let more : block_count (length all) ≡ suc (block_count (length rest)) = one_block_less (length all) (omega arith) ∙ ap (λ (n : ℕ). suc (block_count n)) (sym left) in
    ap (λ (n : ℕ). blocks_in n all) more ∙ ap (λ (vs : List Version). take BLOCK vs ∷ blocks_in (block_count (length rest)) (drop BLOCK vs)) is ∙ rw (cut.0, cut.1) refl

pub pushed_more : (format : Format) (out total : List ℕ) (all block rest : List Version) → blocks_of all ≡ block ∷ blocks_of rest
    → out ++ flat_map (block_bytes format) (blocks_of all) ≡ total → (out ++ block_bytes format block) ++ flat_map (block_bytes format) (blocks_of rest) ≡ total
pushed_more format out total all block rest next so_far =
    append_assoc out (block_bytes format block) (flat_map (block_bytes format) (blocks_of rest)) ∙ ap (λ (bs : List (List Version)). out ++ flat_map (block_bytes format) bs) (sym next) ∙ so_far

pub placed_more : (format : Format) (places out total : List ℕ) (all block rest : List Version) → blocks_of all ≡ block ∷ blocks_of rest
    → places ++ places_from format (length out) (blocks_of all) ≡ total → (places ++ length out ∷ []) ++ places_from format (length (out ++ block_bytes format block)) (blocks_of rest) ≡ total
placed_more format places out total all block rest next so_far =
    append_assoc places (length out ∷ []) (places_from format (length (out ++ block_bytes format block)) (blocks_of rest))
    ∙ ap (λ (n : ℕ). places ++ length out ∷ places_from format n (blocks_of rest)) (length-append out (block_bytes format block))
    ∙ ap (λ (bs : List (List Version)). places ++ places_from format (length out) bs) (sym next) ∙ so_far
