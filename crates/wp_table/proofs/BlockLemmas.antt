-- Blocks: what is read is spelled so, and what is spelled so is read.
use Rattle.std.proofs.Common.{◌≡◌, ℕ, zero, suc, ◌+◌, ◌-◌, ◌*◌, ◌^◌, ◌<◌, ◌≤◌, min, true, eqb, List, [], ◌∷◌, ◌++◌, length, take, drop, Result, Ok, refl, sym, ap, subst, ◌∙◌, append_assoc, arith, inl, inr, lit<}
use Rattle.std.specs.Int.{w16, to_be_bytes}
use Rattle.std.specs.List.{flat_map, list_all}
use Rattle.std.proofs.lemmas.Bool.{cases_lt, eqb-true, eq-eqb, and_parts, and_from}
use Rattle.std.proofs.lemmas.Grind.{div_ceil_times}
use Rattle.std.proofs.lemmas.List.{append-nil, nil_from_length, take_at, drop_at, take_all, drop_all, take-append-drop, length-append, length-take, length-drop}
use Rattle.std.proofs.lemmas.List.Folds.{list_all-append}
use Rattle.wp_model.specs.declared.version.Version.{Version}
use Rattle.wp_model.specs.Versions.{AreInOrder}
use Rattle.wp_fields.specs.Reading.{◌>>=◌, number_at}
use Rattle.wp_fields.proofs.Results.{bind_ok, ok_is}
use Rattle.wp_fields.proofs.FieldLemmas.{AreBytes, Begins, Begins-then, number_takes, number_again, fields_16}
use Rattle.wp_fields.specs.declared.format.Format.{Format}
use Rattle.wp_table.specs.declared.layout.TheConstants.{BLOCK}
use Rattle.wp_table.specs.declared.error.TableError.{TableError}
use Rattle.wp_table.specs.declared.error.TableError.TheVariants.{Short, Count}
use Rattle.wp_table.specs.Table.{version_bytes, block_bytes, block_count, blocks_in, places_from, is_version}
use Rattle.wp_table.specs.Reading.{if_right, versions_after, block_after, blocks_after}
use Rattle.wp_table.proofs.Order.{in_order_front}
use Rattle.wp_table.proofs.Parts.{was_right}
use Rattle.wp_table.proofs.VersionLemmas.{TakesVersions, versions_take, versions_again}

-- ---- how many blocks there are

pub count_bounds : (n : ℕ) → (n ≤ block_count n * 16) × (block_count n * 16 < n + 16)
count_bounds n = div_ceil_times n 16 (lit< tt)

pub no_blocks : (n : ℕ) → 0 ≡ block_count n → n ≡ 0
no_blocks n none = omega (arith, (count_bounds n).0, none)

pub some_left : (n blocks : ℕ) → suc blocks ≡ block_count n → 1 ≤ n
some_left n blocks some = omega (arith, (count_bounds n).1, some)

pub one_block_less : (n : ℕ) → 1 ≤ n → block_count n ≡ suc (block_count (n - min n BLOCK))
one_block_less n some =
    let all = count_bounds n in
    let rest = count_bounds (n - min n BLOCK) in
    omega (arith, all.0, all.1, rest.0, rest.1)

pub blocks_left : (n blocks : ℕ) → suc blocks ≡ block_count n → blocks ≡ block_count (n - min n BLOCK)
blocks_left n blocks is = omega (arith, is, one_block_less n (some_left n blocks is))

pub fewer_blocks : (n : ℕ) → block_count n ≤ n
fewer_blocks n = omega (arith, (count_bounds n).1)

-- the first block and the others
pub one_block : (block more : List Version) (left : ℕ) → length block ≡ min left BLOCK → length more ≡ left - min left BLOCK → (take BLOCK (block ++ more) ≡ block) × (drop BLOCK (block ++ more) ≡ more)
one_block block more left counted others =
    elim (cases_lt left BLOCK) [
      | inl few ↦
          let none : more ≡ [] = nil_from_length more (omega (arith, others)) in
          let short : length block ≤ BLOCK = omega (arith, counted) in
          rw (none, append-nil block) (take_all BLOCK block short, drop_all BLOCK block short)
      | inr many ↦
          let full : length block ≡ BLOCK = omega (arith, counted) in
          (take_at block more BLOCK full, drop_at block more BLOCK full)
    ]

-- ---- one block

pub block_takes : (format : Format) (count flushed : ℕ) (before : List Version) (bytes : List ℕ) (x : List Version × List ℕ) → AreBytes bytes → block_after format count flushed before bytes ≡ Ok x
    → (middle : List ℕ) × Begins bytes (to_be_bytes w16 count) middle × TakesVersions format count flushed before middle x
unfolding block_after
block_takes format count flushed before bytes x h e =
    let s = bind_ok (number_at Short w16 bytes) (λ found. if_right (eqb found.0 count) Count found.1 >>= versions_after format count flushed before) x e in
    let t = bind_ok (if_right (eqb s.0.0 count) Count s.0.1) (versions_after format count flushed before) x s.2 in
    let right = was_right (eqb s.0.0 count) Count s.0.1 t.0 t.1 in
    let number = (number_takes Short w16 (2 ^ 16) fields_16 bytes s.0 h s.1).0 in
    let counted : Begins bytes (to_be_bytes w16 count) s.0.1 = subst (λ (n : ℕ). Begins bytes (to_be_bytes w16 n) s.0.1) (eqb-true s.0.0 count right.0) number in
    let middle : Begins bytes (to_be_bytes w16 count) t.0 = subst (Begins bytes (to_be_bytes w16 count)) right.1 counted in
    (t.0, middle, versions_take format count flushed before t.0 x middle.rest_bytes t.2)

pub block_again : (format : Format) (block : List Version) (flushed : ℕ) (before : List Version) (rest : List ℕ) → length block < 2 ^ 16 → AreInOrder (before ++ block) → list_all (is_version format flushed) block ≡ true → block_after format (length block) flushed before (block_bytes format block ++ rest) ≡ Ok (before ++ block, rest)
unfolding block_after
block_again format block flushed before rest small order range =
    let count = to_be_bytes w16 (length block) in
    let regrouped : block_bytes format block ++ rest ≡ count ++ (flat_map (version_bytes format) block ++ rest) = append_assoc count (flat_map (version_bytes format) block) rest in
    ap (block_after format (length block) flushed before) regrouped
    ∙ rw (number_again Short w16 (2 ^ 16) fields_16 (length block) (flat_map (version_bytes format) block ++ rest) small, eq-eqb (length block) (length block) refl) (versions_again format block flushed before rest order range)

-- ---- all blocks

abbrev pub Found : Type 0
Found = (List Version × List ℕ) × List ℕ

-- so many blocks more were read
pub record TakesBlocks (format : Format) (blocks size flushed left : ℕ) (before : List Version) (places bytes : List ℕ) (x : Found) : Type 0 where
  pub more : List Version
  pub appended : x.0.0 ≡ before ++ more
  pub counted : length more ≡ left
  pub parts : Begins bytes (flat_map (block_bytes format) (blocks_in blocks more)) x.1
  pub placed : x.0.1 ≡ places ++ places_from format (size - length bytes) (blocks_in blocks more)
  pub in_range : list_all (is_version format flushed) more ≡ true
  pub in_order : AreInOrder before → AreInOrder x.0.0

abbrev others_after : Format → ℕ → ℕ → ℕ → ℕ → List ℕ → List Version × List ℕ → Result Found TableError
others_after format blocks size flushed left places block = blocks_after format blocks size flushed left block.0 places block.1

pub blocks_take : (format : Format) (blocks size flushed left : ℕ) (before : List Version) (places bytes : List ℕ) (x : Found) → blocks ≡ block_count left → length bytes ≤ size → AreBytes bytes
    → blocks_after format blocks size flushed left before places bytes ≡ Ok x → TakesBlocks format blocks size flushed left before places bytes x
unfolding blocks_after
blocks_take format zero size flushed left before places bytes x is long h e =
    let last : Found = ((before, places ++ (size - length bytes) ∷ []), bytes) in
    let all : TakesBlocks format 0 size flushed left before places bytes last = record {
      more = [];
      appended = sym (append-nil before);
      counted = sym (no_blocks left is);
      parts = record { parts = refl; rest_bytes = h };
      placed = refl;
      in_range = refl;
      in_order = λ order. order;
    } in
    rw (← ok_is {E = TableError} last x e) all
blocks_take format (suc blocks) size flushed left before places bytes x is long h e =
    let here = size - length bytes in
    let s = bind_ok (block_after format (min left BLOCK) flushed before bytes) (others_after format blocks size flushed (left - min left BLOCK) (places ++ here ∷ [])) x e in
    let block = block_takes format (min left BLOCK) flushed before bytes s.0 h s.1 in
    let versions = block.2 in
    let count : Begins bytes (to_be_bytes w16 (length versions.more)) block.0 = subst (λ (n : ℕ). Begins bytes (to_be_bytes w16 n) block.0) (sym versions.counted) block.1 in
    let whole : Begins bytes (block_bytes format versions.more) s.0.1 = Begins-then bytes (to_be_bytes w16 (length versions.more)) block.0 (flat_map (version_bytes format) versions.more) s.0.1 count versions.parts in
    let lengths : length bytes ≡ length (block_bytes format versions.more) + length s.0.1 = ap length whole.parts ∙ length-append (block_bytes format versions.more) s.0.1 in
    let rest = blocks_take format blocks size flushed (left - min left BLOCK) s.0.0 (places ++ here ∷ []) s.0.1 x (blocks_left left blocks is) (omega (arith, lengths)) whole.rest_bytes s.2 in
    let cut = one_block versions.more rest.more left versions.counted rest.counted in
    let split : blocks_in (suc blocks) (versions.more ++ rest.more) ≡ versions.more ∷ blocks_in blocks rest.more = rw (cut.0, cut.1) refl in
    let others = blocks_in blocks rest.more in
    let next : size - length s.0.1 ≡ here + length (block_bytes format versions.more) = omega (arith, lengths) in
    let placed : x.0.1 ≡ places ++ places_from format here (versions.more ∷ others) = rest.placed ∙ append_assoc places (here ∷ []) (places_from format (size - length s.0.1) others) ∙ ap (λ (p : ℕ). places ++ here ∷ places_from format p others) next in
    record {
      more = versions.more ++ rest.more;
      appended = rest.appended ∙ ap (λ (t : List Version). t ++ rest.more) versions.appended ∙ append_assoc before versions.more rest.more;
      counted = omega (arith, length-append versions.more rest.more, versions.counted, rest.counted);
      parts = subst (λ (bs : List (List Version)). Begins bytes (flat_map (block_bytes format) bs) x.1) (sym split) (Begins-then bytes (block_bytes format versions.more) s.0.1 (flat_map (block_bytes format) others) x.1 whole rest.parts);
      placed = placed ∙ ap (λ (bs : List (List Version)). places ++ places_from format here bs) (sym split);
      in_range = list_all-append (is_version format flushed) versions.more rest.more ∙ and_from _ _ versions.in_range rest.in_range;
      in_order = λ order. rest.in_order (versions.in_order order);
    }

-- what blocks are read as that are spelled so
abbrev read_blocks : Format → ℕ → ℕ → List Version → List Version → List ℕ → List ℕ → Found
read_blocks format blocks here more before places rest = ((before ++ more, places ++ places_from format here (blocks_in blocks more)), rest)

pub blocks_again : (format : Format) (blocks size flushed : ℕ) (more before : List Version) (places rest : List ℕ) → blocks ≡ block_count (length more) → length (flat_map (block_bytes format) (blocks_in blocks more) ++ rest) ≤ size
    → AreInOrder (before ++ more) → list_all (is_version format flushed) more ≡ true
    → blocks_after format blocks size flushed (length more) before places (flat_map (block_bytes format) (blocks_in blocks more) ++ rest) ≡ Ok (read_blocks format blocks (size - length (flat_map (block_bytes format) (blocks_in blocks more) ++ rest)) more before places rest)
unfolding blocks_after
blocks_again format zero size flushed more before places rest is long order range =
    let none : more ≡ [] = nil_from_length more (no_blocks (length more) is) in
    let same : before ≡ before ++ more = sym (ap (λ (t : List Version). before ++ t) none ∙ append-nil before) in
    ap (λ (all : List Version). Ok ((all, places ++ (size - length rest) ∷ []), rest)) same
blocks_again format (suc blocks) size flushed more before places rest is long order range =
    let block = take BLOCK more in
    let others = drop BLOCK more in
    let split : more ≡ block ++ others = sym (take-append-drop BLOCK more) in
    let some = some_left (length more) blocks is in
    let counted : length block ≡ min (length more) BLOCK = omega (arith, length-take BLOCK more) in
    let left : length others ≡ length more - min (length more) BLOCK = omega (arith, length-drop BLOCK more) in
    let all : (before ++ block) ++ others ≡ before ++ more = append_assoc before block others ∙ ap (λ (t : List Version). before ++ t) (sym split) in
    let whole_order : AreInOrder ((before ++ block) ++ others) = subst AreInOrder (sym all) order in
    let ranges = and_parts (list_all (is_version format flushed) block) (list_all (is_version format flushed) others) (sym (list_all-append (is_version format flushed) block others) ∙ ap (list_all (is_version format flushed)) (sym split) ∙ range) in
    let text = flat_map (block_bytes format) (blocks_in blocks others) in
    let here = size - length ((block_bytes format block ++ text) ++ rest) in
    let regrouped : (block_bytes format block ++ text) ++ rest ≡ block_bytes format block ++ (text ++ rest) = append_assoc (block_bytes format block) text rest in
    let lengths : length ((block_bytes format block ++ text) ++ rest) ≡ length (block_bytes format block) + length (text ++ rest) = ap length regrouped ∙ length-append (block_bytes format block) (text ++ rest) in
    let one : block_after format (min (length more) BLOCK) flushed before ((block_bytes format block ++ text) ++ rest) ≡ Ok (before ++ block, text ++ rest) =
    ap (λ (n : ℕ). block_after format n flushed before ((block_bytes format block ++ text) ++ rest)) (sym counted) ∙ ap (block_after format (length block) flushed before) regrouped
    ∙ block_again format block flushed before (text ++ rest) (omega (arith, counted)) (in_order_front (before ++ block) others whole_order) ranges.0 in
    let less : blocks ≡ block_count (length others) = blocks_left (length more) blocks is ∙ ap block_count (sym left) in
    let after = blocks_again format blocks size flushed others (before ++ block) (places ++ here ∷ []) rest less (omega (arith, lengths, long)) whole_order ranges.1 in
    let next : size - length (text ++ rest) ≡ here + length (block_bytes format block) = omega (arith, lengths, long) in
    let placed : (places ++ here ∷ []) ++ places_from format (size - length (text ++ rest)) (blocks_in blocks others) ≡ places ++ places_from format here (block ∷ blocks_in blocks others) =
    append_assoc places (here ∷ []) (places_from format (size - length (text ++ rest)) (blocks_in blocks others)) ∙ ap (λ (p : ℕ). places ++ here ∷ places_from format p (blocks_in blocks others)) next in
    let same : read_blocks format blocks (size - length (text ++ rest)) others (before ++ block) (places ++ here ∷ []) rest ≡ read_blocks format (suc blocks) here more before places rest =
    ap (λ (versions : List Version). ((versions, (places ++ here ∷ []) ++ places_from format (size - length (text ++ rest)) (blocks_in blocks others)), rest)) all ∙ ap (λ (ps : List ℕ). ((before ++ more, ps), rest)) placed in
    let go_on : blocks_after format blocks size flushed (length more - min (length more) BLOCK) (before ++ block) (places ++ here ∷ []) (text ++ rest) ≡ Ok (read_blocks format blocks (size - length (text ++ rest)) others (before ++ block) (places ++ here ∷ []) rest) =
    ap (λ (n : ℕ). blocks_after format blocks size flushed n (before ++ block) (places ++ here ∷ []) (text ++ rest)) (sym left) ∙ after in
    rw one (go_on ∙ ap (λ (found : Found). Ok found) same)

-- ---- how many bytes there are

versions_take_bytes : (format : Format) (versions : List Version) → length versions ≤ length (flat_map (version_bytes format) versions)
versions_take_bytes format [] = omega arith
versions_take_bytes format (v ∷ vs) = omega (arith, versions_take_bytes format vs, length-append (version_bytes format v) (flat_map (version_bytes format) vs))

-- versions are no more than the bytes of their blocks
pub blocks_take_bytes : (format : Format) (blocks : ℕ) (versions : List Version) → blocks ≡ block_count (length versions) → length versions ≤ length (flat_map (block_bytes format) (blocks_in blocks versions))
blocks_take_bytes format zero versions is = omega (arith, no_blocks (length versions) is)
blocks_take_bytes format (suc blocks) versions is =
    let block = take BLOCK versions in
    let others = drop BLOCK versions in
    let left : length others ≡ length versions - min (length versions) BLOCK = omega (arith, length-drop BLOCK versions) in
    let less : blocks ≡ block_count (length others) = blocks_left (length versions) blocks is ∙ ap block_count (sym left) in
    let text = flat_map (block_bytes format) (blocks_in blocks others) in
    omega (
      arith,
      blocks_take_bytes format blocks others less,
      length-drop BLOCK versions,
      length-take BLOCK versions,
      versions_take_bytes format block,
      length-append (to_be_bytes w16 (length block)) (flat_map (version_bytes format) block),
      length-append (block_bytes format block) text,
    )
