-- What is spelled as a table is read again, from each of its blocks on.
use Rattle.std.proofs.Common.{◌≡◌, ℕ, zero, suc, ◌+◌, ◌-◌, ◌*◌, ◌^◌, ◌<◌, ◌≤◌, true, ltb, ◌&&◌, List, [], ◌∷◌, ◌++◌, length, get_or, take, drop, Option, Some, None, Ok, Err, refl, sym, ap, subst, ◌∙◌, append_assoc, arith, inl, inr}
use Rattle.std.specs.Int.{w16, w64, to_be_bytes}
use Rattle.std.specs.List.{flat_map, list_all}
use Rattle.std.proofs.lemmas.Bool.{cases_lt, and_parts, ltb-true}
use Rattle.std.proofs.lemmas.List.{nil_from_length, take_at, drop_at, take-append-drop, drop-drop, length-append, length-take, length-drop}
use Rattle.std.proofs.lemmas.List.Folds.{list_all-append}
use Rattle.wp_model.specs.declared.version.Version.{Version}
use Rattle.wp_model.specs.Versions.{AreInOrder}
use Rattle.wp_fields.proofs.FieldLemmas.{number_again, piece_there, fields_16, fields_of}
use Rattle.wp_encoding.specs.Encoding.{word_bytes, value_bytes}
use Rattle.wp_encoding.proofs.WordLemmas.{length_of_word}
use Rattle.wp_fields.specs.declared.format.Format.{Format}
use Rattle.wp_fields.specs.Format.{number_width, number_end}
use Rattle.wp_table.specs.declared.layout.TheConstants.{BLOCK}
use Rattle.wp_table.specs.declared.error.TableError.{TableError}
use Rattle.wp_table.specs.declared.error.TableError.TheVariants.{Short}
use Rattle.wp_table.specs.Table.{stored_bytes, version_bytes, block_bytes, block_count, blocks_in, blocks_of, places_from, head_bytes, table_bytes, has_number, is_flushed, is_stored, has_words, is_version, IsTableIn}
use Rattle.wp_table.specs.Walk.{word_in, value_in, stored_in, version_in, next_in, one_less, versions_in, stored_versions, IsIndexed}
use Rattle.wp_table.proofs.BlockLemmas.{count_bounds, no_blocks, some_left, blocks_left, blocks_take_bytes}
use Rattle.wp_table.proofs.Parts.{list_all-first}

-- ---- one version

word_there : (word rest : List ℕ) → word_in (word_bytes word ++ rest) ≡ Ok (word, rest)
unfolding word_in
word_there word rest =
    let long : length word ≤ length (word ++ rest) = omega (arith, length-append word rest) in
    rw (piece_there Short (length word) (word ++ rest) long, take_at word rest (length word) refl, drop_at word rest (length word) refl) refl

value_there : (value rest : List ℕ) → length value < 2 ^ 16 → value_in (value_bytes value ++ rest) ≡ Ok (value, rest)
unfolding value_in
value_there value rest small =
    let regrouped : value_bytes value ++ rest ≡ to_be_bytes w16 (length value) ++ (value ++ rest) = append_assoc (to_be_bytes w16 (length value)) value rest in
    let long : length value ≤ length (value ++ rest) = omega (arith, length-append value rest) in
    ap value_in regrouped
    ∙ rw (number_again Short w16 (2 ^ 16) fields_16 (length value) (value ++ rest) small, piece_there Short (length value) (value ++ rest) long, take_at value rest (length value) refl, drop_at value rest (length value) refl) refl

stored_there : (value : Option (List ℕ)) (rest : List ℕ) → is_stored value ≡ true → stored_in (stored_bytes value ++ rest) ≡ Ok (value, rest)
unfolding stored_in
stored_there None rest is = refl
stored_there (Some value) rest is = let range = length_of_word 256 value is in rw (value_there value rest (omega (arith, range.1))) refl

version_there : (format : Format) (flushed : ℕ) (v : Version) (rest : List ℕ) → is_version format flushed v ≡ true → version_in format (version_bytes format v ++ rest) ≡ Ok (v, rest)
unfolding version_in
version_there format flushed v rest is =
    let outer = and_parts (has_words v) (has_number format v && is_flushed flushed v) is in
    let words = and_parts _ (is_stored v.value) outer.0 in
    let numbered = (and_parts (has_number format v) (is_flushed flushed v) outer.1).0 in
    let small : v.number < number_end format = ltb-true _ _ (and_parts _ (ltb v.number (number_end format)) numbered).1 in
    let number = to_be_bytes (number_width format) v.number in
    let regrouped : version_bytes format v ++ rest ≡ word_bytes v.key ++ (number ++ (stored_bytes v.value ++ rest)) =
    append_assoc (word_bytes v.key) (number ++ stored_bytes v.value) rest ∙ ap (λ (t : List ℕ). word_bytes v.key ++ t) (append_assoc number (stored_bytes v.value) rest) in
    ap (version_in format) regrouped ∙ rw (word_there v.key (number ++ (stored_bytes v.value ++ rest)), number_again Short (number_width format) (number_end format) (fields_of format) v.number (stored_bytes v.value ++ rest) small, stored_there v.value rest words.1) refl

-- ---- the versions of a block

-- the versions before the count of the next block
in_block : (format : Format) (vs : List Version) (flushed k left more : ℕ) (tail : List ℕ) → left ≡ length vs + more → length vs ≤ k → list_all (is_version format flushed) vs ≡ true
    → versions_in format left k (flat_map (version_bytes format) vs ++ tail) ≡ vs ++ versions_in format more (k - length vs) tail
unfolding versions_in next_in
in_block format [] flushed k left more tail is few range =
    let all : left ≡ more = omega (arith, is) in
    let none : k ≡ k - 0 = omega arith in
    ap (λ (n : ℕ). versions_in format n k tail) all ∙ ap (λ (n : ℕ). versions_in format more n tail) none
in_block format (v ∷ vs) flushed zero left more tail is few range = absurd (omega (arith, few))
in_block format (v ∷ vs) flushed (suc k) left more tail is few range =
    let parts = and_parts (is_version format flushed v) (list_all (is_version format flushed) vs) range in
    let rest = flat_map (version_bytes format) vs ++ tail in
    let n : left ≡ suc (length vs + more) = omega (arith, is) in
    let regrouped : (version_bytes format v ++ flat_map (version_bytes format) vs) ++ tail ≡ version_bytes format v ++ rest = append_assoc (version_bytes format v) (flat_map (version_bytes format) vs) tail in
    let others = in_block format vs flushed k (length vs + more) more tail refl (omega (arith, few)) parts.1 in
    let less : k - length vs ≡ suc k - length (v ∷ vs) = omega arith in
    ap (λ (m : ℕ). versions_in format m (suc k) ((version_bytes format v ++ flat_map (version_bytes format) vs) ++ tail)) n
    ∙ ap (versions_in format (suc (length vs + more)) (suc k)) regrouped
    ∙ rw (version_there format flushed v rest parts.0) (ap (λ (ws : List Version). v ∷ ws) (others ∙ ap (λ (m : ℕ). vs ++ versions_in format more m tail) less))

-- a block, its count first
one_block : (format : Format) (vs : List Version) (flushed left more : ℕ) (tail : List ℕ) → left ≡ length vs + more → 1 ≤ length vs → length vs ≤ 16 → list_all (is_version format flushed) vs ≡ true
    → versions_in format left 0 (block_bytes format vs ++ tail) ≡ vs ++ versions_in format more (16 - length vs) tail
unfolding versions_in next_in
one_block format [] flushed left more tail is some few range = absurd (omega (arith, some))
one_block format (v ∷ vs) flushed left more tail is some few range =
    let parts = and_parts (is_version format flushed v) (list_all (is_version format flushed) vs) range in
    let count = to_be_bytes w16 (length (v ∷ vs)) in
    let rest = flat_map (version_bytes format) vs ++ tail in
    let n : left ≡ suc (length vs + more) = omega (arith, is) in
    let regrouped : block_bytes format (v ∷ vs) ++ tail ≡ count ++ (version_bytes format v ++ rest) =
    append_assoc count (version_bytes format v ++ flat_map (version_bytes format) vs) tail ∙ ap (λ (t : List ℕ). count ++ t) (append_assoc (version_bytes format v) (flat_map (version_bytes format) vs) tail) in
    let others = in_block format vs flushed 15 (length vs + more) more tail refl (omega (arith, few)) parts.1 in
    let less : 15 - length vs ≡ 16 - length (v ∷ vs) = omega arith in
    ap (λ (m : ℕ). versions_in format m 0 (block_bytes format (v ∷ vs) ++ tail)) n
    ∙ ap (versions_in format (suc (length vs + more)) 0) regrouped
    ∙ rw (number_again Short w16 (2 ^ 16) fields_16 (length (v ∷ vs)) (version_bytes format v ++ rest) (omega (arith, few)), version_there format flushed v rest parts.0)
    (ap (λ (ws : List Version). v ∷ ws) (others ∙ ap (λ (m : ℕ). vs ++ versions_in format more m tail) less))

-- ---- the versions of all blocks

no_more : (format : Format) (k : ℕ) (tail : List ℕ) (left : ℕ) (vs : List Version) → left ≡ length vs → length vs ≡ 0 → versions_in format left k tail ≡ vs
unfolding versions_in
no_more format k tail left vs is none =
    let zero_left : left ≡ 0 = omega (arith, is, none) in
    ap (λ (n : ℕ). versions_in format n k tail) zero_left ∙ sym (nil_from_length vs none)

all_blocks : (format : Format) (blocks flushed left : ℕ) (vs : List Version) (tail : List ℕ) → blocks ≡ block_count (length vs) → left ≡ length vs → list_all (is_version format flushed) vs ≡ true
    → versions_in format left 0 (flat_map (block_bytes format) (blocks_in blocks vs) ++ tail) ≡ vs
all_blocks format zero flushed left vs tail is all range = no_more format 0 tail left vs all (no_blocks (length vs) is)
all_blocks format (suc blocks) flushed left vs tail is all range =
    let block = take BLOCK vs in
    let others = drop BLOCK vs in
    let split : block ++ others ≡ vs = take-append-drop BLOCK vs in
    let taken = length-take BLOCK vs in
    let dropped = length-drop BLOCK vs in
    let some = some_left (length vs) blocks is in
    let ranges = and_parts (list_all (is_version format flushed) block) (list_all (is_version format flushed) others) (sym (list_all-append (is_version format flushed) block others) ∙ ap (list_all (is_version format flushed)) split ∙ range) in
    let text = flat_map (block_bytes format) (blocks_in blocks others) in
    let regrouped : (block_bytes format block ++ text) ++ tail ≡ block_bytes format block ++ (text ++ tail) = append_assoc (block_bytes format block) text tail in
    let here = one_block format block flushed left (length others) (text ++ tail) (omega (arith, all, taken, dropped)) (omega (arith, taken, some)) (omega (arith, taken)) ranges.0 in
    let less : blocks ≡ block_count (length others) = blocks_left (length vs) blocks is ∙ ap block_count (omega (arith, dropped)) in
    let rest : versions_in format (length others) (16 - length block) (text ++ tail) ≡ others = elim (cases_lt 0 (length others)) [
      | inl more ↦
          let full : 16 - length block ≡ 0 = omega (arith, taken, dropped, more) in
          ap (λ (k : ℕ). versions_in format (length others) k (text ++ tail)) full ∙ all_blocks format blocks flushed (length others) others tail less refl ranges.1
      | inr none ↦ no_more format (16 - length block) (text ++ tail) (length others) others refl (omega (arith, none))
    ] in
    ap (versions_in format left 0) regrouped ∙ here ∙ ap (λ (ws : List Version). block ++ ws) rest ∙ split

pub stored_is : (format : Format) (id flushed : ℕ) (versions : List Version) → IsTableIn format id flushed versions → stored_versions format (table_bytes format id versions) (length versions) ≡ versions
stored_is format id flushed versions is =
    let count = length versions in
    let index = flat_map (to_be_bytes w64) (places_from format 25 (blocks_of versions)) in
    let behind : drop 25 (table_bytes format id versions) ≡ flat_map (block_bytes format) (blocks_of versions) ++ index = drop_at (head_bytes format id count) (flat_map (block_bytes format) (blocks_of versions) ++ index) 25 refl in
    ap (versions_in format count 0) behind ∙ all_blocks format (block_count count) flushed count versions index refl refl is.in_range

-- ---- the place of a block

block_there : (format : Format) (blocks : List (List Version)) (b p : ℕ) (head tail : List ℕ) → length head ≡ p → b ≤ length blocks → drop (get_or (places_from format p blocks) b 0) (head ++ (flat_map (block_bytes format) blocks ++ tail)) ≡ flat_map (block_bytes format) (drop b blocks) ++ tail
block_there format [] zero p head tail is le = drop_at head tail p is
block_there format [] (suc b) p head tail is le = absurd (omega (arith, le))
block_there format (block ∷ blocks) zero p head tail is le = drop_at head (flat_map (block_bytes format) (block ∷ blocks) ++ tail) p is
block_there format (block ∷ blocks) (suc b) p head tail is le =
    let next = p + length (block_bytes format block) in
    let text = flat_map (block_bytes format) blocks in
    let regrouped : head ++ ((block_bytes format block ++ text) ++ tail) ≡ (head ++ block_bytes format block) ++ (text ++ tail) =
    ap (λ (t : List ℕ). head ++ t) (append_assoc (block_bytes format block) text tail) ∙ sym (append_assoc head (block_bytes format block) (text ++ tail)) in
    ap (drop (get_or (places_from format next blocks) b 0)) regrouped
    ∙ block_there format blocks b next (head ++ block_bytes format block) tail (omega (arith, is, length-append head (block_bytes format block))) (omega (arith, le))

place_within : (format : Format) (blocks : List (List Version)) (b p : ℕ) → get_or (places_from format p blocks) b 0 ≤ p + length (flat_map (block_bytes format) blocks)
place_within format [] zero p = omega arith
place_within format [] (suc b) p = omega arith
place_within format (block ∷ blocks) zero p = omega arith
place_within format (block ∷ blocks) (suc b) p = omega (arith, place_within format blocks b (p + length (block_bytes format block)), length-append (block_bytes format block) (flat_map (block_bytes format) blocks))

count_places : (format : Format) (blocks : List (List Version)) (p : ℕ) → length (places_from format p blocks) ≡ suc (length blocks)
count_places format [] p = refl
count_places format (block ∷ blocks) p = ap suc (count_places format blocks (p + length (block_bytes format block)))

count_blocks : (blocks : ℕ) (vs : List Version) → length (blocks_in blocks vs) ≡ blocks
count_blocks zero vs = refl
count_blocks (suc blocks) vs = ap suc (count_blocks blocks (drop BLOCK vs))

drop_blocks : (b blocks : ℕ) (vs : List Version) → b ≤ blocks → drop b (blocks_in blocks vs) ≡ blocks_in (blocks - b) (drop (b * BLOCK) vs)
drop_blocks zero blocks vs le = let all : blocks ≡ blocks - 0 = omega arith in ap (λ (n : ℕ). blocks_in n vs) all
drop_blocks (suc b) zero vs le = absurd (omega (arith, le))
drop_blocks (suc b) (suc blocks) vs le =
    let less : blocks - b ≡ suc blocks - suc b = omega arith in
    let further : BLOCK + b * BLOCK ≡ suc b * BLOCK = omega arith in
    drop_blocks b blocks (drop BLOCK vs) (omega (arith, le))
    ∙ ap (blocks_in (blocks - b)) (drop-drop (b * BLOCK) BLOCK vs ∙ ap (λ (n : ℕ). drop n vs) further)
    ∙ ap (λ (n : ℕ). blocks_in n (drop (suc b * BLOCK) vs)) less

get_front : (xs ys : List ℕ) (i d e : ℕ) → i < length xs → get_or (xs ++ ys) i d ≡ get_or xs i e
get_front [] ys i d e lt = absurd (omega (arith, lt))
get_front (x ∷ xs) ys zero d e lt = refl
get_front (x ∷ xs) ys (suc i) d e lt = get_front xs ys i d e (omega (arith, lt))

range_of_drop : (format : Format) (flushed n : ℕ) (vs : List Version) → list_all (is_version format flushed) vs ≡ true → list_all (is_version format flushed) (drop n vs) ≡ true
range_of_drop format flushed n vs range =
    (and_parts (list_all (is_version format flushed) (take n vs)) (list_all (is_version format flushed) (drop n vs)) (sym (list_all-append (is_version format flushed) (take n vs) (drop n vs)) ∙ ap (list_all (is_version format flushed)) (take-append-drop n vs) ∙ range)).1

-- ---- a table with its index

pub versions_are : (format : Format) (bytes : List ℕ) (count : ℕ) (places : List ℕ) (is : IsIndexed format bytes count places) → stored_versions format bytes count ≡ is.versions
versions_are format bytes count places is =
    ap (stored_versions format bytes) is.counted ∙ ap (λ (bs : List ℕ). stored_versions format bs (length is.versions)) is.parts ∙ stored_is format is.id is.flushed is.versions is.is

pub count_is : (format : Format) (bytes : List ℕ) (count : ℕ) (places : List ℕ) → IsIndexed format bytes count places → count ≡ length (stored_versions format bytes count)
count_is format bytes count places is = is.counted ∙ sym (ap length (versions_are format bytes count places is))

pub blocks_are : (format : Format) (bytes : List ℕ) (count : ℕ) (places : List ℕ) → IsIndexed format bytes count places → length places ≡ block_count (length (stored_versions format bytes count))
blocks_are format bytes count places is =
    let blocks = block_count (length is.versions) in
    let placed = ap length is.placed ∙ count_places format (blocks_of is.versions) 25 in
    let counted = count_blocks blocks is.versions in
    let n : length places ≡ blocks = omega (arith, placed, counted, length-append places (is.end ∷ [])) in
    n ∙ ap (λ (vs : List Version). block_count (length vs)) (sym (versions_are format bytes count places is))

pub some_blocks : (format : Format) (bytes : List ℕ) (count : ℕ) (places : List ℕ) → IsIndexed format bytes count places → 1 ≤ length places
some_blocks format bytes count places is =
    let n = blocks_are format bytes count places is ∙ ap (λ (vs : List Version). block_count (length vs)) (versions_are format bytes count places is) in
    omega (arith, n, (count_bounds (length is.versions)).0, is.is.some)

-- the head is there, and no more versions than bytes
pub has_head : (format : Format) (bytes : List ℕ) (count : ℕ) (places : List ℕ) → IsIndexed format bytes count places → (25 ≤ length bytes) × (count < 2 ^ 64)
has_head format bytes count places is =
    let vs = is.versions in
    let rest = flat_map (block_bytes format) (blocks_of vs) ++ flat_map (to_be_bytes w64) (places_from format 25 (blocks_of vs)) in
    (omega (arith, ap length is.parts, length-append (head_bytes format is.id (length vs)) rest), omega (arith, is.counted, is.is.places_fit, blocks_take_bytes format (block_count (length vs)) vs refl))

-- where a block is in the bytes of a table
pub record HasBlock (format : Format) (bytes : List ℕ) (count : ℕ) (places : List ℕ) (b place : ℕ) : Type 0 where
  pub within : place ≤ length bytes
  pub versions : versions_in format (count - b * 16) 0 (drop place bytes) ≡ drop (b * BLOCK) (stored_versions format bytes count)

pub block_listed : (format : Format) (bytes : List ℕ) (count : ℕ) (places : List ℕ) (b : ℕ) → IsIndexed format bytes count places → b < block_count (length (stored_versions format bytes count)) → b < length places
block_listed format bytes count places b is lt = omega (arith, lt, blocks_are format bytes count places is)

pub block_before : (format : Format) (bytes : List ℕ) (count : ℕ) (places : List ℕ) (b : ℕ) → IsIndexed format bytes count places → b < block_count (length (stored_versions format bytes count)) → b * 16 ≤ count
block_before format bytes count places b is lt = omega (arith, (count_bounds (length (stored_versions format bytes count))).1, lt, count_is format bytes count places is)

pub has_block : (format : Format) (bytes : List ℕ) (count : ℕ) (places : List ℕ) (b place : ℕ) → IsIndexed format bytes count places → b < block_count (length (stored_versions format bytes count)) → place ≡ get_or places b place → HasBlock format bytes count places b place
has_block format bytes count places b place is lt at =
    let vs = is.versions in
    let are = versions_are format bytes count places is in
    let blocks = block_count (length vs) in
    let all : length places ≡ blocks = blocks_are format bytes count places is ∙ ap (λ (ws : List Version). block_count (length ws)) are in
    let listed = block_listed format bytes count places b is lt in
    let before = block_before format bytes count places b is lt in
    let bounds = count_bounds (length vs) in
    let index = flat_map (to_be_bytes w64) (places_from format 25 (blocks_of vs)) in
    let head = head_bytes format is.id (length vs) in
    let here : place ≡ get_or (places_from format 25 (blocks_of vs)) b 0 = at ∙ sym (get_front places (is.end ∷ []) b 0 place listed) ∙ ap (λ (ps : List ℕ). get_or ps b 0) is.placed in
    let there : drop place bytes ≡ flat_map (block_bytes format) (drop b (blocks_of vs)) ++ index =
    ap (λ (n : ℕ). drop n bytes) here ∙ ap (drop (get_or (places_from format 25 (blocks_of vs)) b 0)) is.parts ∙ block_there format (blocks_of vs) b 25 head index refl (omega (arith, listed, all, count_blocks blocks vs)) in
    let dropped = length-drop (b * BLOCK) vs in
    let rest = count_bounds (length (drop (b * BLOCK) vs)) in
    let left : count - b * 16 ≡ length (drop (b * BLOCK) vs) = omega (arith, dropped, is.counted) in
    let fewer : blocks - b ≡ block_count (length (drop (b * BLOCK) vs)) = omega (arith, bounds.0, bounds.1, rest.0, rest.1, dropped, listed, all, before, is.counted) in
    let text : flat_map (block_bytes format) (drop b (blocks_of vs)) ++ index ≡ flat_map (block_bytes format) (blocks_in (blocks - b) (drop (b * BLOCK) vs)) ++ index =
    ap (λ (bs : List (List Version)). flat_map (block_bytes format) bs ++ index) (drop_blocks b blocks vs (omega (arith, listed, all))) in
    let lengths = ap length is.parts ∙ length-append head (flat_map (block_bytes format) (blocks_of vs) ++ index) in
    record {
      within = omega (arith, here, place_within format (blocks_of vs) b 25, lengths, length-append (flat_map (block_bytes format) (blocks_of vs)) index);
      versions = ap (versions_in format (count - b * 16) 0) (there ∙ text) ∙ all_blocks format (blocks - b) is.flushed (count - b * 16) (drop (b * BLOCK) vs) index fewer left (range_of_drop format is.flushed (b * BLOCK) vs is.is.in_range) ∙ ap (drop (b * BLOCK)) (sym are);
    }

-- ---- one version more

pub none_in : (format : Format) (left k : ℕ) (bytes : List ℕ) → left ≡ 0 → versions_in format left k bytes ≡ []
unfolding versions_in
none_in format left k bytes none = ap (λ (n : ℕ). versions_in format n k bytes) none

pub next_read : (format : Format) (left k : ℕ) (bytes : List ℕ) (x : Version × List ℕ) → 1 ≤ left → next_in format k bytes ≡ Ok x → versions_in format left k bytes ≡ x.0 ∷ versions_in format (left - 1) (one_less k) x.1
unfolding versions_in
next_read format zero k bytes x some read = absurd (omega (arith, some))
next_read format (suc left) k bytes x some read =
    let less : left ≡ suc left - 1 = omega arith in
    rw read (ap (λ (n : ℕ). x.0 ∷ versions_in format n (one_less k) x.1) less)

pub next_fails : (format : Format) (left k : ℕ) (bytes : List ℕ) (fault : TableError) → next_in format k bytes ≡ Err fault → versions_in format left k bytes ≡ []
unfolding versions_in
next_fails format zero k bytes fault read = refl
next_fails format (suc left) k bytes fault read = rw read refl

pub indexed_in_order : (format : Format) (bytes : List ℕ) (count : ℕ) (places : List ℕ) → IsIndexed format bytes count places → AreInOrder (stored_versions format bytes count)
indexed_in_order format bytes count places is = subst AreInOrder (sym (versions_are format bytes count places is)) is.is.in_order

pub indexed_in_range : (format : Format) (bytes : List ℕ) (count : ℕ) (places : List ℕ) → IsIndexed format bytes count places → list_all has_words (stored_versions format bytes count) ≡ true
indexed_in_range format bytes count places is =
    ap (list_all has_words) (versions_are format bytes count places is) ∙ list_all-first has_words (λ v. has_number format v && is_flushed is.flushed v) is.versions is.is.in_range
