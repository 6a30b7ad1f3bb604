-- Faults of blocks, places and whole tables: what is refused has the fault, and what has a fault is refused for it.
use Rattle.std.proofs.Common.{◌≡◌, ℕ, zero, suc, ◌-◌, ◌*◌, ◌^◌, ◌<◌, min, true, eqb, List, [], ◌∷◌, ◌++◌, length, take, drop, Result, Ok, Err, refl, sym, ap, subst, ◌∙◌, append_assoc, arith, inl, inr}
use Rattle.std.specs.Int.{w16, w64, to_be_bytes}
use Rattle.std.specs.List.{AllByRecursion, flat_map, list_all}
use Rattle.std.proofs.lemmas.Bool.{eqb-true, eq-eqb, and_parts, and_from}
use Rattle.std.proofs.lemmas.List.{append-nil, length-append, take_at, drop_at, nil_from_length, take-append-drop, length-take, length-drop}
use Rattle.std.proofs.lemmas.List.Folds.{list_all-append}
use Rattle.wp_model.specs.declared.version.Version.{Version}
use Rattle.wp_model.specs.Versions.{AreInOrder}
use Rattle.wp_fields.specs.Reading.{◌>>=◌, number_at}
use Rattle.wp_fields.proofs.Results.{bind_ok, bind_err, ok_or_err}
use Rattle.wp_fields.proofs.FieldLemmas.{AreBytes, Begins, Begins-then, number_takes, number_again, fields_16, fields_64}
use Rattle.wp_fields.specs.declared.format.Format.{Format}
use Rattle.wp_table.specs.declared.layout.TheConstants.{BLOCK}
use Rattle.wp_table.specs.declared.error.TableError.{TableError}
use Rattle.wp_table.specs.declared.error.TableError.TheVariants.{Short, Count, Index}
use Rattle.wp_table.specs.Table.{version_bytes, block_bytes, block_count, blocks_in, is_version}
use Rattle.wp_table.specs.Reading.{if_right, last_of, next_version_at, versions_after, block_after, blocks_after, after_place, after_places}
use Rattle.wp_table.specs.Faults.{IsNumberFault, IsVersionFault, IsBlockFault, in_count, in_versions, IsBlocksFault, FitsField, IsPlacesFault}
use Rattle.wp_model.proofs.VersionLists.{in_order_nil}
use Rattle.wp_table.proofs.Order.{in_order_push, after_from_order, in_order_front}
use Rattle.wp_table.proofs.Parts.{was_right}
use Rattle.wp_table.proofs.VersionLemmas.{IsNext, version_takes, version_again}
use Rattle.wp_table.proofs.BlockLemmas.{Found, no_blocks, some_left, blocks_left, block_takes, block_again}
use Rattle.wp_table.proofs.Whole.{place_takes}
use Rattle.wp_table.proofs.FieldFaults.{tested_fails, tested_refused, version_fails, version_refused}

-- ---- the versions of a block

-- fewer versions more are right, and the one after them has the fault
record FailsAfter (format : Format) (count flushed : ℕ) (before : List Version) (bytes : List ℕ) (fault : TableError) : Type 0 where
  more : List Version
  rest : List ℕ
  parts : bytes ≡ flat_map (version_bytes format) more ++ rest
  in_range : list_all (is_version format flushed) more ≡ true
  in_order : AreInOrder before → AreInOrder (before ++ more)
  fewer : length more < count
  wrong : IsVersionFault format flushed (before ++ more) rest fault

abbrev others_after : Format → ℕ → ℕ → List Version → Version × List ℕ → Result (List Version × List ℕ) TableError
others_after format count flushed before version = versions_after format count flushed (before ++ version.0 ∷ []) version.1

versions_fail : (format : Format) (count flushed : ℕ) (before : List Version) (bytes : List ℕ) (fault : TableError) → AreBytes bytes → versions_after format count flushed before bytes ≡ Err fault → FailsAfter format count flushed before bytes fault
unfolding versions_after
versions_fail format zero flushed before bytes fault h e = absurd (ok_or_err (before, bytes) fault e)
versions_fail format (suc count) flushed before bytes fault h e =
    elim (bind_err (next_version_at format flushed (last_of before) bytes) (others_after format count flushed before) fault e) [
      | inl wrong ↦
          let same : before ≡ before ++ [] = sym (append-nil before) in
          record {
            more = [];
            rest = bytes;
            parts = refl;
            in_range = refl;
            in_order = λ order. subst AreInOrder same order;
            fewer = omega arith;
            wrong = subst (λ (all : List Version). IsVersionFault format flushed all bytes fault) same (version_fails format flushed before bytes fault h wrong);
          }
      | inr there ↦
          let v = version_takes format flushed (last_of before) bytes there.0 h there.1 in
          let after = versions_fail format count flushed (before ++ there.0.0 ∷ []) there.0.1 fault v.0.rest_bytes there.2 in
          let all : (before ++ there.0.0 ∷ []) ++ after.more ≡ before ++ there.0.0 ∷ after.more = append_assoc before (there.0.0 ∷ []) after.more in
          record {
            more = there.0.0 ∷ after.more;
            rest = after.rest;
            parts = v.0.parts ∙ ap (λ (t : List ℕ). version_bytes format there.0.0 ++ t) after.parts ∙ sym (append_assoc (version_bytes format there.0.0) (flat_map (version_bytes format) after.more) after.rest);
            in_range = and_from _ _ v.1.in_range after.in_range;
            in_order = λ order. subst AreInOrder all (after.in_order (in_order_push before there.0.0 order v.1.after));
            fewer = omega (arith, after.fewer);
            wrong = subst (λ (vs : List Version). IsVersionFault format flushed vs after.rest fault) all after.wrong;
          }
    ]

versions_refused : (format : Format) (more : List Version) (count flushed : ℕ) (before : List Version) (rest : List ℕ) (fault : TableError) → AreInOrder (before ++ more) → list_all (is_version format flushed) more ≡ true → length more < count
    → IsVersionFault format flushed (before ++ more) rest fault → versions_after format count flushed before (flat_map (version_bytes format) more ++ rest) ≡ Err fault
unfolding versions_after
versions_refused format more zero flushed before rest fault order range fewer wrong = absurd (omega (arith, fewer))
versions_refused format [] (suc count) flushed before rest fault order range fewer wrong =
    let same : before ++ [] ≡ before = append-nil before in
    rw (version_refused format flushed before rest fault (subst (λ (vs : List Version). IsVersionFault format flushed vs rest fault) same wrong)) refl
versions_refused format (v ∷ more) (suc count) flushed before rest fault order range fewer wrong =
    let parts = and_parts (is_version format flushed v) (list_all (is_version format flushed) more) range in
    let next : IsNext format flushed (last_of before) v = record { in_range = parts.0; after = after_from_order before v more order } in
    let regrouped : (version_bytes format v ++ flat_map (version_bytes format) more) ++ rest ≡ version_bytes format v ++ (flat_map (version_bytes format) more ++ rest) = append_assoc (version_bytes format v) (flat_map (version_bytes format) more) rest in
    let all : before ++ v ∷ more ≡ (before ++ v ∷ []) ++ more = sym (append_assoc before (v ∷ []) more) in
    let others = versions_refused format more count flushed (before ++ v ∷ []) rest fault (subst AreInOrder all order) parts.1 (omega (arith, fewer)) (subst (λ (vs : List Version). IsVersionFault format flushed vs rest fault) all wrong) in
    ap (versions_after format (suc count) flushed before) regrouped ∙ rw (version_again format flushed (last_of before) v (flat_map (version_bytes format) more ++ rest) next) others

-- ---- one block

abbrev count_tested : ℕ → List ℕ → Result (List ℕ) TableError
count_tested count bytes = number_at Short w16 bytes >>= λ found. if_right (eqb found.0 count) Count found.1

-- the count of the block, and then its versions
block_in_steps : (format : Format) (count flushed : ℕ) (before : List Version) (bytes : List ℕ) → block_after format count flushed before bytes ≡ (count_tested count bytes >>= versions_after format count flushed before)
unfolding block_after
block_in_steps format count flushed before bytes = elim (number_at Short w16 bytes) as (λ r. (r >>= λ found. if_right (eqb found.0 count) Count found.1 >>= versions_after format count flushed before) ≡ ((r >>= λ found. if_right (eqb found.0 count) Count found.1) >>= versions_after format count flushed before)) [
  | Ok found ↦ refl
  | Err fault ↦ refl
]

count_takes : (count : ℕ) (bytes rest : List ℕ) → AreBytes bytes → count_tested count bytes ≡ Ok rest → Begins bytes (to_be_bytes w16 count) rest
count_takes count bytes rest h e =
    let s = bind_ok (number_at Short w16 bytes) (λ found. if_right (eqb found.0 count) Count found.1) rest e in
    let right = was_right (eqb s.0.0 count) Count s.0.1 rest s.2 in
    let number = (number_takes Short w16 (2 ^ 16) fields_16 bytes s.0 h s.1).0 in
    subst (Begins bytes (to_be_bytes w16 count)) right.1 (subst (λ (n : ℕ). Begins bytes (to_be_bytes w16 n) s.0.1) (eqb-true s.0.0 count right.0) number)

block_fails : (format : Format) (count flushed : ℕ) (before : List Version) (bytes : List ℕ) (fault : TableError) → AreBytes bytes → AreInOrder before → block_after format count flushed before bytes ≡ Err fault → IsBlockFault format count flushed before bytes fault
block_fails format count flushed before bytes fault h order e =
    elim (bind_err (count_tested count bytes) (versions_after format count flushed before) fault (sym (block_in_steps format count flushed before bytes) ∙ e)) [
      | inl wrong ↦ in_count (tested_fails w16 (2 ^ 16) fields_16 (λ found. eqb found count) (λ _. Count) (λ found. found.1) bytes fault h wrong)
      | inr there ↦
          let middle = count_takes count bytes there.0 h there.1 in
          let after = versions_fail format count flushed before there.0 fault middle.rest_bytes there.2 in
          in_versions after.more after.rest (middle.parts ∙ ap (λ (t : List ℕ). to_be_bytes w16 count ++ t) after.parts) after.fewer (after.in_order order) after.in_range after.wrong
    ]

block_refused : (format : Format) (count flushed : ℕ) (before : List Version) (bytes : List ℕ) (fault : TableError) → count < 2 ^ 16 → IsBlockFault format count flushed before bytes fault → block_after format count flushed before bytes ≡ Err fault
block_refused format count flushed before bytes fault small (in_count wrong) =
    block_in_steps format count flushed before bytes ∙ rw (tested_refused w16 (2 ^ 16) fields_16 (λ found. eqb found count) (λ _. Count) (λ found. found.1) bytes fault wrong) refl
block_refused format count flushed before bytes fault small (in_versions versions rest parts fewer order range wrong) =
    block_in_steps format count flushed before bytes ∙ ap (λ (t : List ℕ). count_tested count t >>= versions_after format count flushed before) parts
    ∙ rw (number_again Short w16 (2 ^ 16) fields_16 count (flat_map (version_bytes format) versions ++ rest) small, eq-eqb count count refl) (versions_refused format versions count flushed before rest fault order range fewer wrong)

-- ---- all blocks

-- some blocks are right, each with 16 versions, and the next one has the fault
record FailsInBlocks (format : Format) (blocks flushed left : ℕ) (before : List Version) (bytes : List ℕ) (fault : TableError) : Type 0 where
  right : ℕ
  more : List Version
  rest : List ℕ
  full : length more ≡ right * BLOCK
  fewer : length more < left
  parts : bytes ≡ flat_map (block_bytes format) (blocks_in right more) ++ rest
  in_order : AreInOrder (before ++ more)
  in_range : list_all (is_version format flushed) more ≡ true
  wrong : IsBlockFault format (min (left - length more) BLOCK) flushed (before ++ more) rest fault

abbrev other_blocks : Format → ℕ → ℕ → ℕ → ℕ → List ℕ → List Version × List ℕ → Result Found TableError
other_blocks format blocks size flushed left places block = blocks_after format blocks size flushed left block.0 places block.1

blocks_fail : (format : Format) (blocks size flushed left : ℕ) (before : List Version) (places bytes : List ℕ) (fault : TableError) → blocks ≡ block_count left → AreBytes bytes → AreInOrder before
    → blocks_after format blocks size flushed left before places bytes ≡ Err fault → FailsInBlocks format blocks flushed left before bytes fault
unfolding blocks_after
blocks_fail format zero size flushed left before places bytes fault is h order e =
    let last : Found = ((before, places ++ (size - length bytes) ∷ []), bytes) in absurd (ok_or_err last fault e)
blocks_fail format (suc blocks) size flushed left before places bytes fault is h order e =
    elim (bind_err (block_after format (min left BLOCK) flushed before bytes) (other_blocks format blocks size flushed (left - min left BLOCK) (places ++ (size - length bytes) ∷ [])) fault e) [
      | inl wrong ↦
          let same : before ≡ before ++ [] = sym (append-nil before) in
          let none : left ≡ left - 0 = omega arith in
          record {
            right = 0;
            more = [];
            rest = bytes;
            full = refl;
            fewer = some_left left blocks is;
            parts = refl;
            in_order = subst AreInOrder same order;
            in_range = refl;
            wrong = subst (λ (n : ℕ). IsBlockFault format (min n BLOCK) flushed (before ++ []) bytes fault) none (subst (λ (vs : List Version). IsBlockFault format (min left BLOCK) flushed vs bytes fault) same (block_fails format (min left BLOCK) flushed before bytes fault h order wrong));
          }
      | inr there ↦
          let block = block_takes format (min left BLOCK) flushed before bytes there.0 h there.1 in
          let versions = block.2 in
          let count : Begins bytes (to_be_bytes w16 (length versions.more)) block.0 = subst (λ (n : ℕ). Begins bytes (to_be_bytes w16 n) block.0) (sym versions.counted) block.1 in
          let whole : Begins bytes (block_bytes format versions.more) there.0.1 = Begins-then bytes (to_be_bytes w16 (length versions.more)) block.0 (flat_map (version_bytes format) versions.more) there.0.1 count versions.parts in
          let after = blocks_fail format blocks size flushed (left - min left BLOCK) there.0.0 (places ++ (size - length bytes) ∷ []) there.0.1 fault (blocks_left left blocks is) whole.rest_bytes (versions.in_order order) there.2 in
          let full : length versions.more ≡ BLOCK = omega (arith, versions.counted, after.fewer) in
          let split : blocks_in (suc after.right) (versions.more ++ after.more) ≡ versions.more ∷ blocks_in after.right after.more = rw (take_at versions.more after.more BLOCK full, drop_at versions.more after.more BLOCK full) refl in
          let lengths = length-append versions.more after.more in
          let all : there.0.0 ++ after.more ≡ before ++ (versions.more ++ after.more) = ap (λ (t : List Version). t ++ after.more) versions.appended ∙ append_assoc before versions.more after.more in
          let text = flat_map (block_bytes format) (blocks_in after.right after.more) in
          let left_then : left - min left BLOCK - length after.more ≡ left - length (versions.more ++ after.more) = omega (arith, lengths, full, after.fewer) in
          record {
            right = suc after.right;
            more = versions.more ++ after.more;
            rest = after.rest;
            full = omega (arith, lengths, full, after.full);
            fewer = omega (arith, lengths, full, after.fewer);
            parts = whole.parts ∙ ap (λ (t : List ℕ). block_bytes format versions.more ++ t) after.parts ∙ sym (append_assoc (block_bytes format versions.more) text after.rest) ∙ ap (λ (bs : List (List Version)). flat_map (block_bytes format) bs ++ after.rest) (sym split);
            in_order = subst AreInOrder all after.in_order;
            in_range = list_all-append (is_version format flushed) versions.more after.more ∙ and_from _ _ versions.in_range after.in_range;
            wrong = subst (λ (n : ℕ). IsBlockFault format (min n BLOCK) flushed (before ++ (versions.more ++ after.more)) after.rest fault) left_then (subst (λ (vs : List Version). IsBlockFault format (min (left - min left BLOCK - length after.more) BLOCK) flushed vs after.rest fault) all after.wrong);
          }
    ]

blocks_refused : (format : Format) (right : ℕ) (more : List Version) (blocks size flushed left : ℕ) (before : List Version) (places rest : List ℕ) (fault : TableError) → blocks ≡ block_count left → length more ≡ right * BLOCK → length more < left → AreInOrder (before ++ more)
    → list_all (is_version format flushed) more ≡ true → IsBlockFault format (min (left - length more) BLOCK) flushed (before ++ more) rest fault → blocks_after format blocks size flushed left before places (flat_map (block_bytes format) (blocks_in right more) ++ rest) ≡ Err fault
unfolding blocks_after
blocks_refused format right more zero size flushed left before places rest fault is full fewer order range wrong = absurd (omega (arith, fewer, no_blocks left is))
blocks_refused format zero more (suc blocks) size flushed left before places rest fault is full fewer order range wrong =
    let none : more ≡ [] = nil_from_length more (omega (arith, full)) in
    let all : before ++ more ≡ before = ap (λ (t : List Version). before ++ t) none ∙ append-nil before in
    let count : min (left - length more) BLOCK ≡ min left BLOCK = omega (arith, full) in
    let next : IsBlockFault format (min left BLOCK) flushed before rest fault =
    subst (λ (n : ℕ). IsBlockFault format n flushed before rest fault) count (subst (λ (vs : List Version). IsBlockFault format (min (left - length more) BLOCK) flushed vs rest fault) all wrong) in
    rw (block_refused format (min left BLOCK) flushed before rest fault (omega arith) next) refl
blocks_refused format (suc right) more (suc blocks) size flushed left before places rest fault is full fewer order range wrong =
    let block = take BLOCK more in
    let others = drop BLOCK more in
    let split : more ≡ block ++ others = sym (take-append-drop BLOCK more) in
    let counted : length block ≡ min left BLOCK = omega (arith, full, fewer, length-take BLOCK more) in
    let left_over : length others ≡ right * BLOCK = omega (arith, full, length-drop BLOCK more) in
    let all : before ++ more ≡ (before ++ block) ++ others = ap (λ (t : List Version). before ++ t) split ∙ sym (append_assoc before block others) in
    let whole_order : AreInOrder ((before ++ block) ++ others) = subst AreInOrder all order in
    let ranges = and_parts (list_all (is_version format flushed) block) (list_all (is_version format flushed) others) (sym (list_all-append (is_version format flushed) block others) ∙ ap (list_all (is_version format flushed)) (sym split) ∙ range) in
    let text = flat_map (block_bytes format) (blocks_in right others) in
    let regrouped : (block_bytes format block ++ text) ++ rest ≡ block_bytes format block ++ (text ++ rest) = append_assoc (block_bytes format block) text rest in
    let one : block_after format (min left BLOCK) flushed before ((block_bytes format block ++ text) ++ rest) ≡ Ok (before ++ block, text ++ rest) =
    ap (λ (n : ℕ). block_after format n flushed before ((block_bytes format block ++ text) ++ rest)) (sym counted) ∙ ap (block_after format (length block) flushed before) regrouped
    ∙ block_again format block flushed before (text ++ rest) (omega (arith, counted)) (in_order_front (before ++ block) others whole_order) ranges.0 in
    let count : min (left - length more) BLOCK ≡ min (left - min left BLOCK - length others) BLOCK = omega (arith, full, fewer, left_over) in
    let next : IsBlockFault format (min (left - min left BLOCK - length others) BLOCK) flushed ((before ++ block) ++ others) rest fault =
    subst (λ (n : ℕ). IsBlockFault format n flushed ((before ++ block) ++ others) rest fault) count (subst (λ (vs : List Version). IsBlockFault format (min (left - length more) BLOCK) flushed vs rest fault) all wrong) in
    let after = blocks_refused format right others blocks size flushed (left - min left BLOCK) (before ++ block) (places ++ (size - length ((block_bytes format block ++ text) ++ rest)) ∷ []) rest fault (blocks_left left blocks is) left_over (omega (arith, full, fewer, left_over)) whole_order ranges.1 next in
    rw one after

-- a fault of the blocks, of which none was read before
pub all_blocks_fail : (format : Format) (count size flushed : ℕ) (bytes : List ℕ) (fault : TableError) → AreBytes bytes → blocks_after format (block_count count) size flushed count [] [] bytes ≡ Err fault → IsBlocksFault format count flushed bytes fault
all_blocks_fail format count size flushed bytes fault h e =
    let found = blocks_fail format (block_count count) size flushed count [] [] bytes fault refl h in_order_nil e in
    record { blocks = found.right; versions = found.more; rest = found.rest; full = found.full; fewer = found.fewer; parts = found.parts; in_order = found.in_order; in_range = found.in_range; wrong = found.wrong }

pub all_blocks_refused : (format : Format) (count size flushed : ℕ) (bytes : List ℕ) (fault : TableError) → IsBlocksFault format count flushed bytes fault → blocks_after format (block_count count) size flushed count [] [] bytes ≡ Err fault
all_blocks_refused format count size flushed bytes fault is =
    ap (blocks_after format (block_count count) size flushed count [] []) is.parts ∙ blocks_refused format is.blocks is.versions (block_count count) size flushed count [] [] is.rest fault refl is.full is.fewer is.in_order is.in_range is.wrong

-- ---- the index and the end

pub places_fail : (places bytes : List ℕ) (fault : TableError) → AreBytes bytes → after_places places bytes ≡ Err fault → IsPlacesFault places bytes fault
unfolding after_places after_place
places_fail [] bytes fault h e = absurd (ok_or_err bytes fault e)
places_fail (place ∷ places) bytes fault h e =
    elim (bind_err (after_place place bytes) (after_places places) fault e) [
      | inl wrong ↦
          record { front = []; place = place; others = places; rest = bytes; listed = refl; parts = refl; fit = tt; wrong = tested_fails w64 (2 ^ 64) fields_64 (λ found. eqb found place) (λ _. Index) (λ found. found.1) bytes fault h wrong }
      | inr there ↦
          let first = place_takes place bytes there.0 h there.1 in
          let after = places_fail places there.0 fault first.0.rest_bytes there.2 in
          record {
            front = place ∷ after.front;
            place = after.place;
            others = after.others;
            rest = after.rest;
            listed = ap (λ (ps : List ℕ). place ∷ ps) after.listed;
            parts = first.0.parts ∙ ap (λ (t : List ℕ). to_be_bytes w64 place ++ t) after.parts ∙ sym (append_assoc (to_be_bytes w64 place) (flat_map (to_be_bytes w64) after.front) after.rest);
            fit = (first.1, after.fit);
            wrong = after.wrong;
          }
    ]

place_refused : (front others : List ℕ) (place : ℕ) (rest : List ℕ) (fault : TableError) → AllByRecursion FitsField front → IsNumberFault w64 (2 ^ 64) (λ found. eqb found place) (λ _. Index) rest fault → after_places (front ++ (place ∷ others)) (flat_map (to_be_bytes w64) front ++ rest) ≡ Err fault
unfolding after_places after_place
place_refused [] others place rest fault fit wrong = rw (tested_refused w64 (2 ^ 64) fields_64 (λ found. eqb found place) (λ _. Index) (λ found. found.1) rest fault wrong) refl
place_refused (first ∷ front) others place rest fault fit wrong =
    let text = flat_map (to_be_bytes w64) front ++ rest in
    let regrouped : (to_be_bytes w64 first ++ flat_map (to_be_bytes w64) front) ++ rest ≡ to_be_bytes w64 first ++ text = append_assoc (to_be_bytes w64 first) (flat_map (to_be_bytes w64) front) rest in
    ap (after_places (first ∷ (front ++ (place ∷ others)))) regrouped ∙ rw (number_again Short w64 (2 ^ 64) fields_64 first text fit.0, eq-eqb first first refl) (place_refused front others place rest fault fit.1 wrong)

pub places_refused : (places bytes : List ℕ) (fault : TableError) → IsPlacesFault places bytes fault → after_places places bytes ≡ Err fault
places_refused places bytes fault is =
    ap (λ (ps : List ℕ). after_places ps bytes) is.listed ∙ ap (after_places (is.front ++ (is.place ∷ is.others))) is.parts ∙ place_refused is.front is.others is.place is.rest fault is.fit is.wrong
