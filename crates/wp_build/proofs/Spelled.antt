-- The bytes that are written one after another are those of a table, with the places where its blocks begin.
use Rattle.std.proofs.Common.{◌≡◌, ℕ, ◌^◌, true, nat_le, nat_lt, List, [], ◌∷◌, ◌++◌, codes, length, refl, ap, ◌∙◌, append_assoc, arith}
use Rattle.std.specs.Int.{w32, w64, to_be_bytes}
use Rattle.std.specs.List.{flat_map, list_all}
use Rattle.std.proofs.lemmas.Bool.{and_parts, and_from, le-leb, ltb-true, lt-ltb}
use Rattle.std.proofs.lemmas.List.{flat_map_more}
use Rattle.wp_model.specs.declared.version.Version.{Version}
use Rattle.wp_fields.specs.declared.format.Format.{Format}
use Rattle.wp_fields.specs.declared.format.Format.TheVariants.{Two}
use Rattle.wp_fields.specs.Format.{format_byte}
use Rattle.wp_table.specs.Table.{block_bytes, block_count, blocks_of, places_from, head_bytes, table_bytes, is_numbered, has_number, is_flushed, IsTableIn}
use Rattle.wp_table.specs.Walk.{IsIndexed}

-- the fields of a head, one after another
pub head_pushed : (format : Format) (id count : ℕ) (start a b c d e : List ℕ) → a ≡ start ++ codes "WPTB" → b ≡ a ++ format_byte format ∷ [] → c ≡ b ++ to_be_bytes w32 id → d ≡ c ++ to_be_bytes w64 count → e ≡ d ++ to_be_bytes w64 (block_count count) → e ≡ start ++ head_bytes format id count
head_pushed format id count start a b c d e magic version named counted blocks =
    let numbers = to_be_bytes w64 count ++ to_be_bytes w64 (block_count count) in
    let behind = format_byte format ∷ (to_be_bytes w32 id ++ numbers) in
    blocks
    ∙ ap (λ (bs : List ℕ). bs ++ to_be_bytes w64 (block_count count)) counted
    ∙ append_assoc c (to_be_bytes w64 count) (to_be_bytes w64 (block_count count))
    ∙ ap (λ (bs : List ℕ). bs ++ numbers) named
    ∙ append_assoc b (to_be_bytes w32 id) numbers
    ∙ ap (λ (bs : List ℕ). bs ++ (to_be_bytes w32 id ++ numbers)) version
    ∙ append_assoc a (format_byte format ∷ []) (to_be_bytes w32 id ++ numbers)
    ∙ ap (λ (bs : List ℕ). bs ++ behind) magic
    ∙ append_assoc start (codes "WPTB") behind

-- the head is 25 bytes, behind which the first block begins
pub from_head : (format : Format) (id count : ℕ) (nothing none head places : List ℕ) (end behind : ℕ) (blocks : List (List Version)) → nothing ≡ [] → none ≡ [] → end ≡ behind → head ≡ nothing ++ head_bytes format id count → places ++ behind ∷ [] ≡ none ++ places_from format (length head) blocks → places ++ end ∷ [] ≡ places_from format 25 blocks
from_head format id count nothing none head places end behind blocks no_bytes no_places at written placed =
    ap (λ (n : ℕ). places ++ n ∷ []) at
    ∙ placed
    ∙ ap (λ (ps : List ℕ). ps ++ places_from format (length head) blocks) no_places
    ∙ ap (λ (bs : List ℕ). places_from format (length bs) blocks) (written ∙ ap (λ (bs : List ℕ). bs ++ head_bytes format id count) no_bytes)

-- the head, the blocks, the places and the end
pub all_bytes : (format : Format) (id : ℕ) (versions : List Version) (nothing head blocks index all places : List ℕ) (end : ℕ) → nothing ≡ [] → head ≡ nothing ++ head_bytes format id (length versions) → blocks ≡ head ++ flat_map (block_bytes format) (blocks_of versions)
    → index ≡ blocks ++ flat_map (to_be_bytes w64) places → all ≡ index ++ to_be_bytes w64 end → places ++ end ∷ [] ≡ places_from format 25 (blocks_of versions) → all ≡ table_bytes format id versions
all_bytes format id versions nothing head blocks index all places end none first second third last placed =
    let text = flat_map (block_bytes format) (blocks_of versions) in
    let begun : head ≡ head_bytes format id (length versions) = first ∙ ap (λ (bs : List ℕ). bs ++ head_bytes format id (length versions)) none in
    last
    ∙ ap (λ (bs : List ℕ). bs ++ to_be_bytes w64 end) third
    ∙ flat_map_more (to_be_bytes w64) blocks places end
    ∙ ap (λ (ps : List ℕ). blocks ++ flat_map (to_be_bytes w64) ps) placed
    ∙ ap (λ (bs : List ℕ). bs ++ flat_map (to_be_bytes w64) (places_from format 25 (blocks_of versions))) (second ∙ ap (λ (bs : List ℕ). bs ++ text) begun)
    ∙ append_assoc (head_bytes format id (length versions)) text (flat_map (to_be_bytes w64) (places_from format 25 (blocks_of versions)))

-- no number is above their bound
pub all_flushed : (versions : List Version) → list_all is_numbered versions ≡ true → list_all (is_flushed (2 ^ 56)) versions ≡ true
all_flushed [] all = refl
all_flushed (v ∷ versions) all =
    let parts = and_parts (is_numbered v) (list_all is_numbered versions) all in
    let below = ltb-true v.number (2 ^ 56) (and_parts (nat_le 1 v.number) (nat_lt v.number (2 ^ 56)) parts.0).1 in
    and_from (is_flushed (2 ^ 56) v) (list_all (is_flushed (2 ^ 56)) versions) (le-leb v.number (2 ^ 56) (omega (arith, below))) (all_flushed versions parts.1)

-- each number fits in eight bytes
pub all_fit : (versions : List Version) → list_all is_numbered versions ≡ true → list_all (has_number Two) versions ≡ true
all_fit [] all = refl
all_fit (v ∷ versions) all =
    let parts = and_parts (is_numbered v) (list_all is_numbered versions) all in
    let number = and_parts (nat_le 1 v.number) (nat_lt v.number (2 ^ 56)) parts.0 in
    let below = ltb-true v.number (2 ^ 56) number.1 in
    and_from (has_number Two v) (list_all (has_number Two) versions) (and_from (nat_le 1 v.number) (nat_lt v.number (2 ^ 64)) number.0 (lt-ltb v.number (2 ^ 64) (omega (arith, below)))) (all_fit versions parts.1)

pub indexed : (format : Format) (id : ℕ) (versions : List Version) (bytes : List ℕ) (count : ℕ) (places : List ℕ) (end : ℕ) → list_all is_numbered versions ≡ true → ((flushed : ℕ) → list_all (is_flushed flushed) versions ≡ true → IsTableIn format id flushed versions)
    → bytes ≡ table_bytes format id versions → count ≡ length versions → places ++ end ∷ [] ≡ places_from format 25 (blocks_of versions) → IsIndexed format bytes count places
indexed format id versions bytes count places end numbered table parts counted placed = record {
  id = id;
  flushed = 2 ^ 56;
  versions = versions;
  end = end;
  is = table (2 ^ 56) (all_flushed versions numbered);
  parts = parts;
  counted = counted;
  placed = placed;
}
