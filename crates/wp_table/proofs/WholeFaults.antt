-- Faults of a head and of a whole table: what is refused has the fault, and what has a fault is refused for it.
use Rattle.std.proofs.Common.{◌≡◌, ℕ, ◌^◌, ◌<◌, ◌≤◌, true, false, eqb, leb, List, [], ◌∷◌, ◌++◌, length, take, Option, Some, None, Result, Ok, Err, refl, sym, ap, subst, ◌∙◌, arith, inl, inr, ◌⊎◌}
use Rattle.std.specs.Prelude.{codes, IfErr, IfSome}
use Rattle.std.specs.Int.{w32, w64, to_be_bytes}
use Rattle.std.specs.List.{AllByRecursion, flat_map}
use Rattle.std.specs.Str.{bytes_eq}
use Rattle.std.proofs.lemmas.Bool.{eq-eqb, ne_eqb, leb-true, le-leb}
use Rattle.wp_model.specs.declared.version.Version.{Version}
use Rattle.wp_fields.specs.declared.format.Format.{Format}
use Rattle.wp_fields.specs.Format.{format_of}
use Rattle.wp_fields.specs.Reading.{◌>>=◌, byte_at, number_at, piece_at, Gives}
use Rattle.wp_fields.proofs.Results.{bind_err, either, err_is, ok_or_err}
use Rattle.wp_fields.proofs.FieldLemmas.{AreBytes, Begins, Begins-piece, byte_takes, byte_fails, piece_takes, piece_fails, piece_there, piece_short, number_takes, number_fails, number_again, number_short, fields_32, fields_64}
use Rattle.wp_table.specs.declared.error.TableError.{TableError}
use Rattle.wp_table.specs.declared.error.TableError.TheVariants.{Memory, Short, Head, Stranger, Count, Word, Number, Order, Index, Extra}
use Rattle.wp_table.specs.Errors.{table_fault}
use Rattle.wp_table.specs.Table.{block_count, blocks_of, places_from, table_bytes, SpellsTable}
use Rattle.wp_table.specs.Reading.{if_right, named_format, format_at, after_id, count_at, head_at, blocks_after, after_places, table_at}
use Rattle.wp_table.specs.Faults.{IsNumberFault, ends, is_wrong, magic_bytes, IsMagicFault, IsHeadFault, in_magic, in_id, in_version_count, in_block_count, FitsField, IsTableFault, in_head, in_blocks, in_places, behind}
use Rattle.wp_table.proofs.Parts.{was_right}
use Rattle.wp_table.proofs.FieldFaults.{was_wrong, tested_fails, tested_refused}
use Rattle.wp_table.proofs.TableFaults.{all_blocks_fail, all_blocks_refused, places_fail, places_refused}
use Rattle.wp_table.proofs.Whole.{same_bytes, format_after, with_format, magic_takes, magic_again, id_takes, blocks_counted, head_takes, head_again, places_take, at_end, places_to_end, blocks_to_end, index_bytes, blocks_read_there, table_before, blocks_there, table_there, table_takes}

-- ---- the magic

abbrev format_read : List ℕ → Result (Format × List ℕ) TableError
format_read rest = byte_at Short rest >>= format_after

absurd_test : true ≡ false → ⊥
absurd_test h = absurd cc

other_magic : (bytes : List ℕ) → bytes_eq bytes (codes "WPTB") ≡ false → bytes ≡ codes "WPTB" → ⊥
other_magic bytes differ same = absurd_test (sym (ap (λ (m : List ℕ). bytes_eq m (codes "WPTB")) same) ∙ differ)

not_magic : (bytes : List ℕ) → (bytes ≡ codes "WPTB" → ⊥) → bytes_eq bytes (codes "WPTB") ≡ false
not_magic bytes differ =
    elim (either (bytes_eq bytes (codes "WPTB"))) [
      | inl same ↦ absurd (differ (same_bytes bytes (codes "WPTB") same))
      | inr other ↦ other
    ]

named_fails : (named : Option Format) (bytes : List ℕ) (fault : TableError) → named_format named bytes ≡ Err fault → (named ≡ None) × (Head ≡ fault)
named_fails None bytes fault e = (refl, err_is {A = Format × List ℕ} Head fault e)
named_fails (Some format) bytes fault e = absurd (ok_or_err (format, bytes) fault e)

magic_fails : (bytes : List ℕ) (fault : TableError) → AreBytes bytes → format_at bytes ≡ Err fault → IsMagicFault bytes fault
unfolding format_at
magic_fails bytes fault h e =
    let named : (other : TableError) → other ≡ fault → IsMagicFault bytes other → IsMagicFault bytes fault = λ other same is. subst (IsMagicFault bytes) same is in
    elim (bind_err (piece_at Short 4 bytes) (λ magic. if_right (bytes_eq magic.0 (codes "WPTB")) Head magic.1 >>= format_read) fault e) [
      | inl short ↦ let piece = piece_fails Short 4 bytes fault short in named Short piece.1 (inl piece.0)
      | inr there ↦
          let piece = piece_takes Short 4 bytes there.0 there.1 in
          let front : take 4 bytes ≡ there.0.0 = ap (λ (p : List ℕ × List ℕ). p.0) piece.1 in
          elim (bind_err (if_right (bytes_eq there.0.0 (codes "WPTB")) Head there.0.1) format_read fault there.2) [
            | inl other ↦
                let wrong = was_wrong (bytes_eq there.0.0 (codes "WPTB")) Head fault there.0.1 other in
                named Head wrong.1 (inl (piece.0, λ same. other_magic (take 4 bytes) (ap (λ (m : List ℕ). bytes_eq m (codes "WPTB")) front ∙ wrong.0) same))
            | inr read ↦
                let right = was_right (bytes_eq there.0.0 (codes "WPTB")) Head there.0.1 read.0 read.1 in
                let pair : Begins bytes there.0.0 there.0.1 = rw (← piece.1) (Begins-piece 4 bytes h) in
                let magic : Begins bytes (codes "WPTB") read.0 = subst (λ (m : List ℕ). Begins bytes m read.0) (same_bytes there.0.0 (codes "WPTB") right.0) (subst (Begins bytes there.0.0) right.1 pair) in
                elim (bind_err (byte_at Short read.0) format_after fault read.2) [
                  | inl short ↦ let byte = byte_fails Short read.0 fault short in named Short byte.1 (inr (magic.parts ∙ ap (λ (t : List ℕ). codes "WPTB" ++ t) byte.0))
                  | inr format ↦
                      let byte = byte_takes Short read.0 format.0 magic.rest_bytes format.1 in
                      let wrong = named_fails (format_of format.0.0) format.0.1 fault format.2 in
                      named Head wrong.1 (inr (format.0.0, format.0.1, magic.parts ∙ ap (λ (t : List ℕ). codes "WPTB" ++ t) byte.parts, wrong.0))
                ]
          ]
    ]

magic_refused : (bytes : List ℕ) (fault : TableError) → IsMagicFault bytes fault → format_at bytes ≡ Err fault
unfolding format_at
magic_refused bytes Short (inl short) = rw (piece_short Short 4 bytes short) refl
magic_refused bytes Short (inr is) = rw is refl
magic_refused bytes Head (inl (long, differ)) = rw (piece_there Short 4 bytes long, not_magic (take 4 bytes) differ) refl
magic_refused bytes Head (inr (byte, rest, parts, unnamed)) = ap format_at parts ∙ rw (piece_there Short 4 (codes "WPTB" ++ (byte ∷ rest)) (omega arith), unnamed) refl
magic_refused bytes Memory is = absurd is
magic_refused bytes (Stranger id) is = absurd is
magic_refused bytes Count is = absurd is
magic_refused bytes Word is = absurd is
magic_refused bytes Number is = absurd is
magic_refused bytes Order is = absurd is
magic_refused bytes Index is = absurd is
magic_refused bytes Extra is = absurd is

-- ---- the head

count_fails : (bytes : List ℕ) (fault : TableError) → AreBytes bytes → count_at bytes ≡ Err fault
    → IsNumberFault w64 (2 ^ 64) (λ count. leb 1 count) (λ _. Count) bytes fault ⊎ ((count : ℕ) × (rest : List ℕ) × (bytes ≡ to_be_bytes w64 count ++ rest) × (1 ≤ count) × (count < 2 ^ 64) × IsNumberFault w64 (2 ^ 64) (λ blocks. eqb blocks (block_count count)) (λ _. Count) rest fault)
unfolding count_at
count_fails bytes fault h e =
    elim (bind_err (number_at Short w64 bytes) (λ count. if_right (leb 1 count.0) Count count.1 >>= λ rest. number_at Short w64 rest >>= blocks_counted count.0) fault e) [
      | inl short ↦ let number = number_fails Short w64 bytes fault short in inl (ends number.0 (sym number.1))
      | inr there ↦
          let number = number_takes Short w64 (2 ^ 64) fields_64 bytes there.0 h there.1 in
          elim (bind_err (if_right (leb 1 there.0.0) Count there.0.1) (λ rest. number_at Short w64 rest >>= blocks_counted there.0.0) fault there.2) [
            | inl none ↦
                let wrong = was_wrong (leb 1 there.0.0) Count fault there.0.1 none in
                inl (is_wrong there.0.0 there.0.1 number.0.parts number.1 wrong.0 (sym wrong.1))
            | inr some ↦
                let right = was_right (leb 1 there.0.0) Count there.0.1 some.0 some.1 in
                let rest : Begins bytes (to_be_bytes w64 there.0.0) some.0 = subst (Begins bytes (to_be_bytes w64 there.0.0)) right.1 number.0 in
                inr (
                  there.0.0,
                  some.0,
                  rest.parts,
                  leb-true _ _ right.0,
                  number.1,
                  tested_fails w64 (2 ^ 64) fields_64 (λ blocks. eqb blocks (block_count there.0.0)) (λ _. Count) (λ blocks. (there.0.0, blocks.1)) some.0 fault rest.rest_bytes some.2,
                )
          ]
    ]

count_refused : (bytes : List ℕ) (fault : TableError) → IsNumberFault w64 (2 ^ 64) (λ count. leb 1 count) (λ _. Count) bytes fault → count_at bytes ≡ Err fault
unfolding count_at
count_refused bytes fault (ends short is) = rw (number_short Short w64 bytes short, is) refl
count_refused bytes fault (is_wrong count rest parts small wrong is) = ap count_at parts ∙ rw (number_again Short w64 (2 ^ 64) fields_64 count rest small, wrong, is) refl

blocks_refused : (count : ℕ) (rest : List ℕ) (fault : TableError) → 1 ≤ count → count < 2 ^ 64 → IsNumberFault w64 (2 ^ 64) (λ blocks. eqb blocks (block_count count)) (λ _. Count) rest fault → count_at (to_be_bytes w64 count ++ rest) ≡ Err fault
unfolding count_at
blocks_refused count rest fault some fits wrong =
    rw (number_again Short w64 (2 ^ 64) fields_64 count rest fits, le-leb _ _ some) (tested_refused w64 (2 ^ 64) fields_64 (λ blocks. eqb blocks (block_count count)) (λ _. Count) (λ blocks. (count, blocks.1)) rest fault wrong)

id_again : (id : ℕ) (rest : List ℕ) → id < 2 ^ 32 → after_id id (to_be_bytes w32 id ++ rest) ≡ Ok rest
unfolding after_id
id_again id rest fits = rw (number_again Short w32 (2 ^ 32) fields_32 id rest fits, eq-eqb id id refl) refl

count_failed : (format : Format) (read : Result (ℕ × List ℕ) TableError) (fault : TableError) → (read >>= with_format format) ≡ Err fault → read ≡ Err fault
count_failed format (Ok count) fault e = absurd (ok_or_err ((format, count.0), count.1) fault e)
count_failed format (Err other) fault e = ap (λ (d : TableError). Err d) (err_is {A = (Format × ℕ) × List ℕ} other fault e)

head_fails : (id : ℕ) (bytes : List ℕ) (fault : TableError) → AreBytes bytes → head_at id bytes ≡ Err fault → IsHeadFault id bytes fault
unfolding head_at after_id
head_fails id bytes fault h e =
    elim (bind_err (format_at bytes) (λ format. after_id id format.1 >>= λ rest. count_at rest >>= with_format format.0) fault e) [
      | inl wrong ↦ in_magic (magic_fails bytes fault h wrong)
      | inr there ↦
          let format = there.0.0 in
          let magic = magic_takes bytes there.0 h there.1 in
          elim (bind_err (after_id id there.0.1) (λ rest. count_at rest >>= with_format format) fault there.2) [
            | inl wrong ↦ in_id format there.0.1 magic.parts (tested_fails w32 (2 ^ 32) fields_32 (λ found. eqb found id) Stranger (λ found. found.1) there.0.1 fault magic.rest_bytes wrong)
            | inr read ↦
                let store = id_takes id there.0.1 read.0 magic.rest_bytes read.1 in
                let parts : bytes ≡ magic_bytes format ++ (to_be_bytes w32 id ++ read.0) = magic.parts ∙ ap (λ (t : List ℕ). magic_bytes format ++ t) store.0.parts in
                elim (count_fails read.0 fault store.0.rest_bytes (count_failed format (count_at read.0) fault read.2)) [
                  | inl wrong ↦ in_version_count format read.0 parts store.1 wrong
                  | inr (count, rest, is, some, fits, wrong) ↦ in_block_count format count rest (parts ∙ ap (λ (t : List ℕ). magic_bytes format ++ (to_be_bytes w32 id ++ t)) is) store.1 some fits wrong
                ]
          ]
    ]

head_refused : (id : ℕ) (bytes : List ℕ) (fault : TableError) → IsHeadFault id bytes fault → head_at id bytes ≡ Err fault
unfolding head_at after_id
head_refused id bytes fault (in_magic wrong) = rw (magic_refused bytes fault wrong) refl
head_refused id bytes fault (in_id format rest parts wrong) =
    ap (head_at id) parts ∙ rw (magic_again format rest, tested_refused w32 (2 ^ 32) fields_32 (λ found. eqb found id) Stranger (λ found. found.1) rest fault wrong) refl
head_refused id bytes fault (in_version_count format rest parts fits wrong) =
    ap (head_at id) parts ∙ rw (magic_again format (to_be_bytes w32 id ++ rest), id_again id rest fits, count_refused rest fault wrong) refl
head_refused id bytes fault (in_block_count format count rest parts id_fits some fits wrong) =
    ap (head_at id) parts ∙ rw (magic_again format (to_be_bytes w32 id ++ (to_be_bytes w64 count ++ rest)), id_again id (to_be_bytes w64 count ++ rest) id_fits, blocks_refused count rest fault some fits wrong) refl

-- ---- all of the bytes

more_bytes : (rest : List ℕ) → eqb (length rest) 0 ≡ false → (byte : ℕ) × (others : List ℕ) × (rest ≡ byte ∷ others)
more_bytes [] some = absurd cc
more_bytes (byte ∷ others) some = (byte, others, refl)

pub table_fails : (id flushed : ℕ) (bytes : List ℕ) (fault : TableError) → AreBytes bytes → table_at id flushed bytes ≡ Err fault → IsTableFault id flushed bytes fault
unfolding table_at
table_fails id flushed bytes fault h e =
    elim (bind_err (head_at id bytes) (blocks_to_end (length bytes) flushed) fault e) [
      | inl wrong ↦ in_head (head_fails id bytes fault h wrong)
      | inr c ↦
          let head = head_takes id bytes c.0 h c.1 in
          elim (bind_err (blocks_after c.0.0.0 (block_count c.0.0.1) (length bytes) flushed c.0.0.1 [] [] c.0.1) places_to_end fault c.2) [
            | inl wrong ↦
                in_blocks c.0.0.0 c.0.0.1 c.0.1 (record { parts = head.parts.parts; id_fits = head.id_fits; some = head.some; count_fits = head.count_fits })
                (all_blocks_fail c.0.0.0 c.0.0.1 (length bytes) flushed c.0.1 fault head.parts.rest_bytes wrong)
            | inr b ↦
                let blocks = blocks_read_there id flushed bytes c.0 b.0 h c.1 b.1 in
                elim (bind_err (after_places b.0.0.1 b.0.1) (at_end b.0) fault b.2) [
                  | inl wrong ↦ in_places c.0.0.0 b.0.0.0 b.0.1 blocks.has (places_fail (places_from c.0.0.0 25 (blocks_of b.0.0.0)) b.0.1 fault blocks.rest_bytes (ap (λ (ps : List ℕ). after_places ps b.0.1) (sym blocks.placed) ∙ wrong))
                  | inr p ↦
                      let wrong = was_wrong (eqb (length p.0) 0) Extra fault b.0.0.0 p.2 in
                      let index = places_take b.0.0.1 b.0.1 p.0 blocks.rest_bytes p.1 in
                      let last : b.0.1 ≡ index_bytes c.0.0.0 b.0.0.0 ++ p.0 = index.0.parts ∙ ap (λ (ps : List ℕ). flat_map (to_be_bytes w64) ps ++ p.0) blocks.placed in
                      let table = table_before c.0.0.0 id flushed b.0.0.0 bytes b.0.1 p.0 blocks.has last (subst (AllByRecursion FitsField) blocks.placed index.1) in
                      let more = more_bytes p.0 wrong.0 in
                      behind c.0.0.0 b.0.0.0 more.0 more.1 table.0 (table.1 ∙ ap (λ (t : List ℕ). table_bytes c.0.0.0 id b.0.0.0 ++ t) more.2) (sym wrong.1)
                ]
          ]
    ]

pub table_refused : (id flushed : ℕ) (bytes : List ℕ) (fault : TableError) → IsTableFault id flushed bytes fault → table_at id flushed bytes ≡ Err fault
unfolding table_at
table_refused id flushed bytes fault (in_head wrong) = rw (head_refused id bytes fault wrong) refl
table_refused id flushed bytes fault (in_blocks format count rest has wrong) =
    let head : head_at id bytes ≡ Ok ((format, count), rest) = ap (head_at id) has.parts ∙ head_again format id count rest has.id_fits has.some has.count_fits in
    rw (head, all_blocks_refused format count (length bytes) flushed rest fault wrong) refl
table_refused id flushed bytes fault (in_places format versions rest has wrong) =
    blocks_there format id flushed versions bytes rest has ∙ rw (places_refused (places_from format 25 (blocks_of versions)) rest fault wrong) refl
table_refused id flushed bytes fault (behind format versions byte rest table parts is) =
    let more : eqb (length (byte ∷ rest)) 0 ≡ false = ne_eqb _ _ (λ none. omega arith) in
    ap (table_at id flushed) parts ∙ table_there format id flushed versions (byte ∷ rest) table ∙ rw (more, is) refl

-- each list of bytes is a table, or has a first fault
abbrev pub Reading : ℕ → ℕ → List ℕ → Type 0
Reading id flushed bytes = ((versions : List Version) × SpellsTable id flushed versions bytes) ⊎ ((fault : TableError) × IsTableFault id flushed bytes fault)

reading_of : (id flushed : ℕ) (bytes : List ℕ) (read : Result (List Version) TableError) → AreBytes bytes → table_at id flushed bytes ≡ read → Reading id flushed bytes
reading_of id flushed bytes (Ok versions) h e = inl (versions, table_takes id flushed bytes versions h e)
reading_of id flushed bytes (Err fault) h e = inr (fault, table_fails id flushed bytes fault h e)

pub table_or_fault : (id flushed : ℕ) (bytes : List ℕ) → AreBytes bytes → Reading id flushed bytes
table_or_fault id flushed bytes h = reading_of id flushed bytes (table_at id flushed bytes) h refl

pub refused_has_fault : {X : Type 0} (view : X → List Version) (id flushed : ℕ) (bytes : List ℕ) (result : Result X TableError) → AreBytes bytes → Gives table_fault view result (table_at id flushed bytes) → IfErr result (λ error. IfSome (table_fault error) (λ fault. IsTableFault id flushed bytes fault))
refused_has_fault view id flushed bytes (Ok versions) h read = tt
refused_has_fault view id flushed bytes (Err Memory) h read = tt
refused_has_fault view id flushed bytes (Err Short) h read = table_fails id flushed bytes Short h read
refused_has_fault view id flushed bytes (Err Head) h read = table_fails id flushed bytes Head h read
refused_has_fault view id flushed bytes (Err (Stranger other)) h read = table_fails id flushed bytes (Stranger other) h read
refused_has_fault view id flushed bytes (Err Count) h read = table_fails id flushed bytes Count h read
refused_has_fault view id flushed bytes (Err Word) h read = table_fails id flushed bytes Word h read
refused_has_fault view id flushed bytes (Err Number) h read = table_fails id flushed bytes Number h read
refused_has_fault view id flushed bytes (Err Order) h read = table_fails id flushed bytes Order h read
refused_has_fault view id flushed bytes (Err Index) h read = table_fails id flushed bytes Index h read
refused_has_fault view id flushed bytes (Err Extra) h read = table_fails id flushed bytes Extra h read
