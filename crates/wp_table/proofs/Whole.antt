-- A whole table: what is read is spelled so, and what is spelled so is read.
use Rattle.std.proofs.Common.{◌≡◌, ℕ, ◌+◌, ◌-◌, ◌^◌, ◌<◌, ◌≤◌, true, eqb, leb, List, [], ◌∷◌, ◌++◌, length, Option, Some, None, Result, Ok, Err, refl, sym, ap, subst, ◌∙◌, append_assoc, arith}
use Rattle.std.specs.Prelude.{codes, IfOk}
use Rattle.std.specs.Int.{w32, w64, to_be_bytes}
use Rattle.std.specs.List.{AllByRecursion, flat_map, list_all}
use Rattle.std.specs.Str.{bytes_eq}
use Rattle.std.proofs.lemmas.Bool.{eqb-true, eq-eqb, ne_eqb, leb-true, le-leb}
use Rattle.std.proofs.lemmas.List.{nil_from_length, append-nil, length-append}
use Rattle.std.proofs.lemmas.Slice.Eq.{bytes_eq-Decides}
use Rattle.wp_model.specs.declared.version.Version.{Version}
use Rattle.wp_fields.specs.declared.format.Format.{Format}
use Rattle.wp_fields.specs.Format.{format_byte, format_of}
use Rattle.wp_fields.specs.Reading.{◌>>=◌, byte_at, number_at, piece_at, Gives}
use Rattle.wp_fields.proofs.Results.{bind_ok, ok_is}
use Rattle.wp_fields.proofs.FieldLemmas.{AreBytes, Begins, Begins-then, Begins-piece, byte_of_format, format_again, byte_takes, piece_takes, piece_there, number_takes, number_again, fields_32, fields_64}
use Rattle.wp_table.specs.declared.error.TableError.{TableError}
use Rattle.wp_table.specs.declared.error.TableError.TheVariants.{Short, Head, Stranger, Count, Index, Extra}
use Rattle.wp_table.specs.Errors.{table_fault}
use Rattle.wp_table.specs.Table.{block_bytes, block_count, blocks_in, blocks_of, places_from, head_bytes, table_bytes, is_version, IsTableIn, SpellsTable}
use Rattle.wp_table.specs.Reading.{if_right, named_format, format_at, after_id, count_at, head_at, blocks_after, after_place, after_places, table_at}
use Rattle.wp_table.specs.Faults.{magic_bytes, FitsField, HasBlocks}
use Rattle.wp_model.proofs.VersionLists.{in_order_nil}
use Rattle.wp_table.proofs.Parts.{was_right}
use Rattle.wp_table.proofs.BlockLemmas.{Found, fewer_blocks, blocks_take_bytes, blocks_take, blocks_again}

-- ---- the head

pub same_bytes : (xs ys : List ℕ) → bytes_eq xs ys ≡ true → xs ≡ ys
same_bytes xs ys = (bytes_eq-Decides xs ys).0

abbrev pub format_after : ℕ × List ℕ → Result (Format × List ℕ) TableError
format_after byte = named_format (format_of byte.0) byte.1

named_takes : (named : Option Format) (bytes : List ℕ) (x : Format × List ℕ) → named_format named bytes ≡ Ok x → (named ≡ Some x.0) × (bytes ≡ x.1)
named_takes None bytes x e = absurd cc
named_takes (Some format) bytes x e =
    let is = ok_is {E = TableError} (format, bytes) x e in (ap (λ (y : Format × List ℕ). Some y.0) is, ap (λ (y : Format × List ℕ). y.1) is)

pub magic_takes : (bytes : List ℕ) (x : Format × List ℕ) → AreBytes bytes → format_at bytes ≡ Ok x → Begins bytes (magic_bytes x.0) x.1
unfolding format_at
magic_takes bytes x h e =
    let s = bind_ok (piece_at Short 4 bytes) (λ magic. if_right (bytes_eq magic.0 (codes "WPTB")) Head magic.1 >>= λ rest. byte_at Short rest >>= format_after) x e in
    let piece = piece_takes Short 4 bytes s.0 s.1 in
    let t = bind_ok (if_right (bytes_eq s.0.0 (codes "WPTB")) Head s.0.1) (λ rest. byte_at Short rest >>= format_after) x s.2 in
    let right = was_right (bytes_eq s.0.0 (codes "WPTB")) Head s.0.1 t.0 t.1 in
    let f = bind_ok (byte_at Short t.0) format_after x t.2 in
    let named = named_takes (format_of f.0.0) f.0.1 x f.2 in
    let pair : Begins bytes s.0.0 s.0.1 = rw (← piece.1) (Begins-piece 4 bytes h) in
    let magic : Begins bytes (codes "WPTB") t.0 = subst (λ (m : List ℕ). Begins bytes m t.0) (same_bytes s.0.0 (codes "WPTB") right.0) (subst (Begins bytes s.0.0) right.1 pair) in
    let byte = byte_takes Short t.0 f.0 magic.rest_bytes f.1 in
    let format : Begins t.0 (format_byte x.0 ∷ []) x.1 = subst (λ (b : ℕ). Begins t.0 (b ∷ []) x.1) (byte_of_format f.0.0 x.0 named.0) (subst (Begins t.0 (f.0.0 ∷ [])) named.1 byte) in
    Begins-then bytes (codes "WPTB") t.0 (format_byte x.0 ∷ []) x.1 magic format

pub id_takes : (id : ℕ) (bytes rest : List ℕ) → AreBytes bytes → after_id id bytes ≡ Ok rest → Begins bytes (to_be_bytes w32 id) rest × (id < 2 ^ 32)
unfolding after_id
id_takes id bytes rest h e =
    let s = bind_ok (number_at Short w32 bytes) (λ found. if_right (eqb found.0 id) (Stranger found.0) found.1) rest e in
    let right = was_right (eqb s.0.0 id) (Stranger s.0.0) s.0.1 rest s.2 in
    let number = number_takes Short w32 (2 ^ 32) fields_32 bytes s.0 h s.1 in
    let found : Begins bytes (to_be_bytes w32 id) s.0.1 × (id < 2 ^ 32) = subst (λ (n : ℕ). Begins bytes (to_be_bytes w32 n) s.0.1 × (n < 2 ^ 32)) (eqb-true s.0.0 id right.0) number in
    subst (λ (r : List ℕ). Begins bytes (to_be_bytes w32 id) r × (id < 2 ^ 32)) right.1 found

abbrev pub blocks_counted : ℕ → ℕ × List ℕ → Result (ℕ × List ℕ) TableError
blocks_counted count blocks = if_right (eqb blocks.0 (block_count count)) Count (count, blocks.1)

count_takes : (bytes : List ℕ) (x : ℕ × List ℕ) → AreBytes bytes → count_at bytes ≡ Ok x → Begins bytes (to_be_bytes w64 x.0 ++ to_be_bytes w64 (block_count x.0)) x.1 × (1 ≤ x.0) × (x.0 < 2 ^ 64)
unfolding count_at
count_takes bytes x h e =
    let s = bind_ok (number_at Short w64 bytes) (λ count. if_right (leb 1 count.0) Count count.1 >>= λ rest. number_at Short w64 rest >>= blocks_counted count.0) x e in
    let t = bind_ok (if_right (leb 1 s.0.0) Count s.0.1) (λ rest. number_at Short w64 rest >>= blocks_counted s.0.0) x s.2 in
    let some = was_right (leb 1 s.0.0) Count s.0.1 t.0 t.1 in
    let b = bind_ok (number_at Short w64 t.0) (blocks_counted s.0.0) x t.2 in
    let right = was_right (eqb b.0.0 (block_count s.0.0)) Count (s.0.0, b.0.1) x b.2 in
    let number = number_takes Short w64 (2 ^ 64) fields_64 bytes s.0 h s.1 in
    let count : Begins bytes (to_be_bytes w64 s.0.0) t.0 = subst (Begins bytes (to_be_bytes w64 s.0.0)) some.1 number.0 in
    let blocks = (number_takes Short w64 (2 ^ 64) fields_64 t.0 b.0 count.rest_bytes b.1).0 in
    let same : Begins t.0 (to_be_bytes w64 (block_count s.0.0)) b.0.1 = subst (λ (n : ℕ). Begins t.0 (to_be_bytes w64 n) b.0.1) (eqb-true b.0.0 (block_count s.0.0) right.0) blocks in
    let found : Begins bytes (to_be_bytes w64 s.0.0 ++ to_be_bytes w64 (block_count s.0.0)) b.0.1 × (1 ≤ s.0.0) × (s.0.0 < 2 ^ 64) =
    (Begins-then bytes (to_be_bytes w64 s.0.0) t.0 (to_be_bytes w64 (block_count s.0.0)) b.0.1 count same, leb-true _ _ some.0, number.1) in
    rw (← right.1) found

pub record TakesHead (id : ℕ) (bytes : List ℕ) (x : (Format × ℕ) × List ℕ) : Type 0 where
  pub parts : Begins bytes (head_bytes x.0.0 id x.0.1) x.1
  pub some : 1 ≤ x.0.1
  pub id_fits : id < 2 ^ 32
  pub count_fits : x.0.1 < 2 ^ 64

-- the count, with the version of the format
abbrev pub with_format : Format → ℕ × List ℕ → Result ((Format × ℕ) × List ℕ) TableError
with_format format count = Ok ((format, count.0), count.1)

pub head_takes : (id : ℕ) (bytes : List ℕ) (x : (Format × ℕ) × List ℕ) → AreBytes bytes → head_at id bytes ≡ Ok x → TakesHead id bytes x
unfolding head_at
head_takes id bytes x h e =
    let s = bind_ok (format_at bytes) (λ format. after_id id format.1 >>= λ rest. count_at rest >>= with_format format.0) x e in
    let magic = magic_takes bytes s.0 h s.1 in
    let t = bind_ok (after_id id s.0.1) (λ rest. count_at rest >>= with_format s.0.0) x s.2 in
    let store = id_takes id s.0.1 t.0 magic.rest_bytes t.1 in
    let c = bind_ok (count_at t.0) (with_format s.0.0) x t.2 in
    let count = count_takes t.0 c.0 store.0.rest_bytes c.1 in
    let counts = to_be_bytes w64 c.0.0 ++ to_be_bytes w64 (block_count c.0.0) in
    let rest = Begins-then s.0.1 (to_be_bytes w32 id) t.0 counts c.0.1 store.0 count.0 in
    let whole : Begins bytes (magic_bytes s.0.0 ++ (to_be_bytes w32 id ++ counts)) c.0.1 = Begins-then bytes (magic_bytes s.0.0) s.0.1 (to_be_bytes w32 id ++ counts) c.0.1 magic rest in
    let found : TakesHead id bytes ((s.0.0, c.0.0), c.0.1) = record { parts = whole; some = count.1; id_fits = store.1; count_fits = count.2 } in
    rw (← ok_is {E = TableError} ((s.0.0, c.0.0), c.0.1) x c.2) found

pub magic_again : (format : Format) (rest : List ℕ) → format_at (codes "WPTB" ++ (format_byte format ∷ rest)) ≡ Ok (format, rest)
unfolding format_at
magic_again format rest = rw (piece_there Short 4 (codes "WPTB" ++ (format_byte format ∷ rest)) (omega arith), format_again format) refl

pub head_again : (format : Format) (id count : ℕ) (rest : List ℕ) → id < 2 ^ 32 → 1 ≤ count → count < 2 ^ 64 → head_at id (head_bytes format id count ++ rest) ≡ Ok ((format, count), rest)
unfolding head_at after_id count_at
head_again format id count rest id_fits some fits =
    let blocks = to_be_bytes w64 (block_count count) in
    let counts = to_be_bytes w64 count ++ blocks in
    let one : counts ++ rest ≡ to_be_bytes w64 count ++ (blocks ++ rest) = append_assoc (to_be_bytes w64 count) blocks rest in
    let two : (to_be_bytes w32 id ++ counts) ++ rest ≡ to_be_bytes w32 id ++ (to_be_bytes w64 count ++ (blocks ++ rest)) = append_assoc (to_be_bytes w32 id) counts rest ∙ ap (λ (t : List ℕ). to_be_bytes w32 id ++ t) one in
    let head : head_bytes format id count ++ rest ≡ codes "WPTB" ++ (format_byte format ∷ (to_be_bytes w32 id ++ (to_be_bytes w64 count ++ (blocks ++ rest)))) = ap (λ (t : List ℕ). codes "WPTB" ++ (format_byte format ∷ t)) two in
    let few : block_count count < 2 ^ 64 = omega (arith, fewer_blocks count) in
    ap (head_at id) head
    ∙ rw (
      magic_again format (to_be_bytes w32 id ++ (to_be_bytes w64 count ++ (blocks ++ rest))),
      number_again Short w32 (2 ^ 32) fields_32 id (to_be_bytes w64 count ++ (blocks ++ rest)) id_fits,
      eq-eqb id id refl,
      number_again Short w64 (2 ^ 64) fields_64 count (blocks ++ rest) fits,
      le-leb _ _ some,
      number_again Short w64 (2 ^ 64) fields_64 (block_count count) rest few,
      eq-eqb (block_count count) (block_count count) refl,
    ) refl

-- ---- the index and the end

pub place_takes : (place : ℕ) (bytes rest : List ℕ) → AreBytes bytes → after_place place bytes ≡ Ok rest → Begins bytes (to_be_bytes w64 place) rest × FitsField place
unfolding after_place
place_takes place bytes rest h e =
    let s = bind_ok (number_at Short w64 bytes) (λ found. if_right (eqb found.0 place) Index found.1) rest e in
    let right = was_right (eqb s.0.0 place) Index s.0.1 rest s.2 in
    let number = number_takes Short w64 (2 ^ 64) fields_64 bytes s.0 h s.1 in
    let found : Begins bytes (to_be_bytes w64 place) s.0.1 × FitsField place = subst (λ (n : ℕ). Begins bytes (to_be_bytes w64 n) s.0.1 × FitsField n) (eqb-true s.0.0 place right.0) number in
    (subst (Begins bytes (to_be_bytes w64 place)) right.1 found.0, found.1)

pub places_take : (places bytes rest : List ℕ) → AreBytes bytes → after_places places bytes ≡ Ok rest → Begins bytes (flat_map (to_be_bytes w64) places) rest × AllByRecursion FitsField places
unfolding after_places
places_take [] bytes rest h e =
    let none : Begins bytes [] bytes × Unit {0} = (record { parts = refl; rest_bytes = h }, tt) in
    subst (λ (r : List ℕ). Begins bytes [] r × Unit {0}) (ok_is {E = TableError} bytes rest e) none
places_take (place ∷ places) bytes rest h e =
    let s = bind_ok (after_place place bytes) (after_places places) rest e in
    let first = place_takes place bytes s.0 h s.1 in
    let others = places_take places s.0 rest first.0.rest_bytes s.2 in
    (Begins-then bytes (to_be_bytes w64 place) s.0 (flat_map (to_be_bytes w64) places) rest first.0 others.0, (first.1, others.1))

places_again : (places rest : List ℕ) → AllByRecursion FitsField places → after_places places (flat_map (to_be_bytes w64) places ++ rest) ≡ Ok rest
unfolding after_places after_place
places_again [] rest fit = refl
places_again (place ∷ places) rest fit =
    let others = flat_map (to_be_bytes w64) places ++ rest in
    let regrouped : (to_be_bytes w64 place ++ flat_map (to_be_bytes w64) places) ++ rest ≡ to_be_bytes w64 place ++ others = append_assoc (to_be_bytes w64 place) (flat_map (to_be_bytes w64) places) rest in
    ap (after_places (place ∷ places)) regrouped ∙ rw (number_again Short w64 (2 ^ 64) fields_64 place others fit.0, eq-eqb place place refl) (places_again places rest fit.1)

-- the last place fits where all do, and all where the last does
end_fits : (format : Format) (place : ℕ) (blocks : List (List Version)) → AllByRecursion FitsField (places_from format place blocks) → place + length (flat_map (block_bytes format) blocks) < 2 ^ 64
end_fits format place [] fit = omega (arith, fit.0)
end_fits format place (block ∷ blocks) fit =
    omega (arith, end_fits format (place + length (block_bytes format block)) blocks fit.1, length-append (block_bytes format block) (flat_map (block_bytes format) blocks))

all_fit : (format : Format) (place : ℕ) (blocks : List (List Version)) → place + length (flat_map (block_bytes format) blocks) < 2 ^ 64 → AllByRecursion FitsField (places_from format place blocks)
all_fit format place [] fits = (omega (arith, fits), tt)
all_fit format place (block ∷ blocks) fits =
    let lengths = length-append (block_bytes format block) (flat_map (block_bytes format) blocks) in
    (omega (arith, fits), all_fit format (place + length (block_bytes format block)) blocks (omega (arith, fits, lengths)))

-- ---- all of the bytes

abbrev pub at_end : Found → List ℕ → Result (List Version) TableError
at_end blocks rest = if_right (eqb (length rest) 0) Extra blocks.0.0

abbrev pub places_to_end : Found → Result (List Version) TableError
places_to_end blocks = after_places blocks.0.1 blocks.1 >>= at_end blocks

abbrev pub blocks_to_end : ℕ → ℕ → (Format × ℕ) × List ℕ → Result (List Version) TableError
blocks_to_end size flushed head = blocks_after head.0.0 (block_count head.0.1) size flushed head.0.1 [] [] head.1 >>= places_to_end

abbrev pub index_bytes : Format → List Version → List ℕ
index_bytes format versions = flat_map (to_be_bytes w64) (places_from format 25 (blocks_of versions))

-- the head and the blocks were read
pub record ReadsBlocks (format : Format) (id flushed : ℕ) (bytes : List ℕ) (x : Found) : Type 0 where
  pub has : HasBlocks format id flushed x.0.0 bytes x.1
  pub placed : x.0.1 ≡ places_from format 25 (blocks_of x.0.0)
  pub rest_bytes : AreBytes x.1

pub blocks_read_there : (id flushed : ℕ) (bytes : List ℕ) (c : (Format × ℕ) × List ℕ) (b : Found) → AreBytes bytes → head_at id bytes ≡ Ok c → blocks_after c.0.0 (block_count c.0.1) (length bytes) flushed c.0.1 [] [] c.1 ≡ Ok b → ReadsBlocks c.0.0 id flushed bytes b
blocks_read_there id flushed bytes c b h first then =
    let size = length bytes in
    let head = head_takes id bytes c h first in
    let lengths : size ≡ 25 + length c.1 = ap length head.parts.parts ∙ length-append (head_bytes c.0.0 id c.0.1) c.1 in
    let blocks = blocks_take c.0.0 (block_count c.0.1) size flushed c.0.1 [] [] c.1 b refl (omega (arith, lengths)) head.parts.rest_bytes then in
    let is : blocks.more ≡ b.0.0 = sym blocks.appended in
    let counted : c.0.1 ≡ length b.0.0 = sym blocks.counted ∙ ap length is in
    let listed : blocks_in (block_count c.0.1) blocks.more ≡ blocks_of b.0.0 = ap (λ (n : ℕ). blocks_in (block_count n) blocks.more) counted ∙ ap (blocks_in (block_count (length b.0.0))) is in
    let place : size - length c.1 ≡ 25 = omega (arith, lengths) in
    let middle : c.1 ≡ flat_map (block_bytes c.0.0) (blocks_of b.0.0) ++ b.1 = blocks.parts.parts ∙ ap (λ (bs : List (List Version)). flat_map (block_bytes c.0.0) bs ++ b.1) listed in
    record {
      has = record {
        head = record {
          parts = head.parts.parts ∙ ap (λ (t : List ℕ). head_bytes c.0.0 id c.0.1 ++ t) middle ∙ ap (λ (n : ℕ). head_bytes c.0.0 id n ++ (flat_map (block_bytes c.0.0) (blocks_of b.0.0) ++ b.1)) counted;
          id_fits = head.id_fits;
          some = omega (arith, counted, head.some);
          count_fits = omega (arith, counted, head.count_fits);
        };
        in_order = blocks.in_order in_order_nil;
        in_range = subst (λ (vs : List Version). list_all (is_version c.0.0 flushed) vs ≡ true) is blocks.in_range;
      };
      placed = blocks.placed ∙ ap (λ (n : ℕ). places_from c.0.0 n (blocks_in (block_count c.0.1) blocks.more)) place ∙ ap (places_from c.0.0 25) listed;
      rest_bytes = blocks.parts.rest_bytes;
    }

-- with the index and the end behind them they are a table
pub table_before : (format : Format) (id flushed : ℕ) (versions : List Version) (bytes middle rest : List ℕ) → HasBlocks format id flushed versions bytes middle → middle ≡ index_bytes format versions ++ rest → AllByRecursion FitsField (places_from format 25 (blocks_of versions))
    → IsTableIn format id flushed versions × (bytes ≡ table_bytes format id versions ++ rest)
table_before format id flushed versions bytes middle rest has last fit =
    let head = head_bytes format id (length versions) in
    let blocks = flat_map (block_bytes format) (blocks_of versions) in
    let regrouped : (head ++ (blocks ++ index_bytes format versions)) ++ rest ≡ head ++ (blocks ++ (index_bytes format versions ++ rest)) =
    append_assoc head (blocks ++ index_bytes format versions) rest ∙ ap (λ (t : List ℕ). head ++ t) (append_assoc blocks (index_bytes format versions) rest) in (
      record { some = has.head.some; in_order = has.in_order; in_range = has.in_range; id_fits = has.head.id_fits; places_fit = end_fits format 25 (blocks_of versions) fit },
      has.head.parts ∙ ap (λ (t : List ℕ). head ++ (blocks ++ t)) last ∙ sym regrouped,
    )

-- and they are one of that version of the format, which the head has
pub table_takes_in : (id flushed : ℕ) (bytes : List ℕ) (versions : List Version) (c : (Format × ℕ) × List ℕ) (b : Found) → AreBytes bytes → head_at id bytes ≡ Ok c → blocks_after c.0.0 (block_count c.0.1) (length bytes) flushed c.0.1 [] [] c.1 ≡ Ok b → places_to_end b ≡ Ok versions
    → IsTableIn c.0.0 id flushed versions × (bytes ≡ table_bytes c.0.0 id versions)
table_takes_in id flushed bytes versions c b h first then last =
    let format = c.0.0 in
    let blocks = blocks_read_there id flushed bytes c b h first then in
    let p = bind_ok (after_places b.0.1 b.1) (at_end b) versions last in
    let right = was_right (eqb (length p.0) 0) Extra b.0.0 versions p.2 in
    let index = places_take b.0.1 b.1 p.0 blocks.rest_bytes p.1 in
    let none : p.0 ≡ [] = nil_from_length p.0 (eqb-true (length p.0) 0 right.0) in
    let all : b.1 ≡ index_bytes format b.0.0 ++ [] = index.0.parts ∙ ap (λ (t : List ℕ). flat_map (to_be_bytes w64) b.0.1 ++ t) none ∙ ap (λ (ps : List ℕ). flat_map (to_be_bytes w64) ps ++ []) blocks.placed in
    let table = table_before format id flushed b.0.0 bytes b.1 [] blocks.has all (subst (AllByRecursion FitsField) blocks.placed index.1) in
    let found : IsTableIn format id flushed b.0.0 × (bytes ≡ table_bytes format id b.0.0) = (table.0, table.1 ∙ append-nil (table_bytes format id b.0.0)) in
    subst (λ (vs : List Version). IsTableIn format id flushed vs × (bytes ≡ table_bytes format id vs)) right.1 found

pub table_takes : (id flushed : ℕ) (bytes : List ℕ) (versions : List Version) → AreBytes bytes → table_at id flushed bytes ≡ Ok versions → SpellsTable id flushed versions bytes
unfolding table_at
table_takes id flushed bytes versions h e =
    let c = bind_ok (head_at id bytes) (blocks_to_end (length bytes) flushed) versions e in
    let b = bind_ok (blocks_after c.0.0.0 (block_count c.0.0.1) (length bytes) flushed c.0.0.1 [] [] c.0.1) places_to_end versions c.2 in
    let found = table_takes_in id flushed bytes versions c.0 b.0 h c.1 b.1 b.2 in
    (c.0.0.0, found.0, found.1)

-- where the head and the blocks are there, the places are read next
pub blocks_there : (format : Format) (id flushed : ℕ) (versions : List Version) (bytes rest : List ℕ) → HasBlocks format id flushed versions bytes rest → table_at id flushed bytes ≡ places_to_end ((versions, places_from format 25 (blocks_of versions)), rest)
unfolding table_at
blocks_there format id flushed versions bytes rest has =
    let count = length versions in
    let blocks = flat_map (block_bytes format) (blocks_of versions) in
    let size = length bytes in
    let lengths : size ≡ 25 + length (blocks ++ rest) = ap length has.head.parts ∙ length-append (head_bytes format id count) (blocks ++ rest) in
    let place : size - length (blocks ++ rest) ≡ 25 = omega (arith, lengths) in
    let read = blocks_again format (block_count count) size flushed versions [] [] rest refl (omega (arith, lengths)) has.in_order has.in_range in
    let read_there : blocks_after format (block_count count) size flushed count [] [] (blocks ++ rest) ≡ Ok ((versions, places_from format 25 (blocks_of versions)), rest) =
    read ∙ ap (λ (n : ℕ). Ok ((versions, places_from format n (blocks_of versions)), rest)) place in
    let head : head_at id bytes ≡ Ok ((format, count), blocks ++ rest) = ap (head_at id) has.head.parts ∙ head_again format id count (blocks ++ rest) has.head.id_fits has.head.some has.head.count_fits in
    rw (head, read_there) refl

-- where a table is there, the bytes behind it are read last
pub table_there : (format : Format) (id flushed : ℕ) (versions : List Version) (rest : List ℕ) → IsTableIn format id flushed versions → table_at id flushed (table_bytes format id versions ++ rest) ≡ if_right (eqb (length rest) 0) Extra versions
table_there format id flushed versions rest is =
    let head = head_bytes format id (length versions) in
    let blocks = flat_map (block_bytes format) (blocks_of versions) in
    let regrouped : (head ++ (blocks ++ index_bytes format versions)) ++ rest ≡ head ++ (blocks ++ (index_bytes format versions ++ rest)) =
    append_assoc head (blocks ++ index_bytes format versions) rest ∙ ap (λ (t : List ℕ). head ++ t) (append_assoc blocks (index_bytes format versions) rest) in
    let fits : length versions < 2 ^ 64 = omega (arith, is.places_fit, blocks_take_bytes format (block_count (length versions)) versions refl) in
    let has : HasBlocks format id flushed versions (table_bytes format id versions ++ rest) (index_bytes format versions ++ rest) = record { head = record { parts = regrouped; id_fits = is.id_fits; some = is.some; count_fits = fits }; in_order = is.in_order; in_range = is.in_range } in
    let places = places_again (places_from format 25 (blocks_of versions)) rest (all_fit format 25 (blocks_of versions) is.places_fit) in
    blocks_there format id flushed versions (table_bytes format id versions ++ rest) (index_bytes format versions ++ rest) has ∙ rw places refl

table_again : (format : Format) (id flushed : ℕ) (versions : List Version) → IsTableIn format id flushed versions → table_at id flushed (table_bytes format id versions) ≡ Ok versions
table_again format id flushed versions is = ap (table_at id flushed) (sym (append-nil (table_bytes format id versions))) ∙ table_there format id flushed versions [] is

pub table_spelled : (id flushed : ℕ) (versions : List Version) (bytes : List ℕ) → SpellsTable id flushed versions bytes → table_at id flushed bytes ≡ Ok versions
table_spelled id flushed versions bytes spells = ap (table_at id flushed) spells.2 ∙ table_again spells.0 id flushed versions spells.1

pub found_is_table : {X : Type 0} (view : X → List Version) (id flushed : ℕ) (bytes : List ℕ) (result : Result X TableError) → AreBytes bytes → Gives table_fault view result (table_at id flushed bytes) → IfOk result (λ read. SpellsTable id flushed (view read) bytes)
found_is_table view id flushed bytes (Ok read) h is = table_takes id flushed bytes (view read) h is
found_is_table view id flushed bytes (Err fault) h is = tt

-- the table of a store is a stranger to another one
other_store : (format : Format) (id other flushed : ℕ) (versions : List Version) → IsTableIn format other flushed versions → (other ≡ id → ⊥) → table_at id flushed (table_bytes format other versions) ≡ Err (Stranger other)
unfolding table_at head_at after_id
other_store format id other flushed versions is differ =
    let count = length versions in
    let counts = to_be_bytes w64 count ++ to_be_bytes w64 (block_count count) in
    let blocks = flat_map (block_bytes format) (blocks_of versions) ++ flat_map (to_be_bytes w64) (places_from format 25 (blocks_of versions)) in
    let store : (to_be_bytes w32 other ++ counts) ++ blocks ≡ to_be_bytes w32 other ++ (counts ++ blocks) = append_assoc (to_be_bytes w32 other) counts blocks in
    let found : after_id id (to_be_bytes w32 other ++ (counts ++ blocks)) ≡ Err (Stranger other) =
    rw (number_again Short w32 (2 ^ 32) fields_32 other (counts ++ blocks) is.id_fits, ne_eqb other id differ) refl in
    let head : head_at id (table_bytes format other versions) ≡ Err (Stranger other) =
    rw (magic_again format ((to_be_bytes w32 other ++ counts) ++ blocks)) (ap (λ (t : List ℕ). after_id id t >>= λ rest. count_at rest >>= with_format format) store ∙ rw found refl) in
    rw head refl

pub spelled_elsewhere : (id other flushed : ℕ) (versions : List Version) (bytes : List ℕ) → SpellsTable other flushed versions bytes → (other ≡ id → ⊥) → table_at id flushed bytes ≡ Err (Stranger other)
spelled_elsewhere id other flushed versions bytes spells differ = ap (table_at id flushed) spells.2 ∙ other_store spells.0 id other flushed versions spells.1 differ
