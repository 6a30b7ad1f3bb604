-- Where in the bytes the first fault of a table is, and which it is. What is read from the left is right up to there.
use Rattle.std.specs.Prelude.{◌≡◌, ◌≢◌, ℕ, zero, suc, ◌-◌, ◌*◌, ◌^◌, ◌<◌, ◌≤◌, min, Bool, true, false, ◌&&◌, ◌==◌, nat_le, List, [], ◌∷◌, ◌++◌, length, take, codes, None, ◌⊎◌}
use Rattle.std.specs.Int.{Width, w16, w32, w64, byte_len, to_be_bytes}
use Rattle.std.specs.List.{AllByRecursion, flat_map, list_all}
use Rattle.wp_model.specs.declared.version.Version.{Version}
use Rattle.wp_model.specs.Versions.{AreInOrder}
use Rattle.wp_model.specs.declared.word.TheConstants.{MOST_KEY_BYTES}
use Rattle.wp_model.specs.Word.{is_key}
use Rattle.wp_fields.specs.declared.format.Format.{Format}
use Rattle.wp_fields.specs.Format.{format_byte, format_of, number_width, number_end}
use Rattle.wp_encoding.specs.declared.error.EncodingError.{EncodingError}
use Rattle.wp_encoding.specs.Encoding.{word_bytes}
use Rattle.wp_encoding.specs.Faults.{HasKey, IsWordFault, IsValueFault}
use Rattle.wp_table.specs.declared.layout.TheConstants.{BLOCK}
use Rattle.wp_table.specs.declared.error.TableError.{TableError}
use Rattle.wp_table.specs.declared.error.TableError.TheVariants.{Short, Head, Stranger, Count, Word, Number, Order, Index, Extra}
use Rattle.wp_table.specs.Errors.{table_error}
use Rattle.wp_table.specs.Table.{version_bytes, block_bytes, block_count, blocks_in, blocks_of, places_from, head_bytes, table_bytes, has_number, is_flushed, is_version, IsTableIn}
use Rattle.wp_table.specs.Reading.{is_after_last}

-- ---- numbers

-- A number below the limit, in a field of that width: the bytes end before the field does; or another number is there
-- than a right one.
pub data IsNumberFault (w : Width) (limit : ℕ) (right : ℕ → Bool) (named : ℕ → TableError) (bytes : List ℕ) (fault : TableError) : Type 0 where
  ends : length bytes < byte_len w → fault ≡ Short → IsNumberFault w limit right named bytes fault
  is_wrong : (number : ℕ) (rest : List ℕ) → bytes ≡ to_be_bytes w number ++ rest → number < limit → right number ≡ false → fault ≡ named number → IsNumberFault w limit right named bytes fault

-- ---- the head

-- the magic and the byte of the format's version
abbrev pub magic_bytes : Format → List ℕ
magic_bytes format = codes "WPTB" ++ format_byte format ∷ []

-- the bytes end in these, or they are others
abbrev pub IsMagicFault : List ℕ → TableError → Type 0
IsMagicFault bytes Short = (length bytes < 4) ⊎ (bytes ≡ codes "WPTB")
IsMagicFault bytes Head = ((4 ≤ length bytes) × (take 4 bytes ≢ codes "WPTB")) ⊎ ((byte : ℕ) × (rest : List ℕ) × (bytes ≡ codes "WPTB" ++ (byte ∷ rest)) × (format_of byte ≡ None))
IsMagicFault bytes other = ⊥

-- the magic, the store's id, the number of versions, or that of blocks
pub data IsHeadFault (id : ℕ) (bytes : List ℕ) (fault : TableError) : Type 0 where
  in_magic : IsMagicFault bytes fault → IsHeadFault id bytes fault
  in_id : (format : Format) (rest : List ℕ) → bytes ≡ magic_bytes format ++ rest → IsNumberFault w32 (2 ^ 32) (λ found. found == id) Stranger rest fault → IsHeadFault id bytes fault
  in_version_count : (format : Format) (rest : List ℕ) → bytes ≡ magic_bytes format ++ (to_be_bytes w32 id ++ rest) → id < 2 ^ 32 → IsNumberFault w64 (2 ^ 64) (λ count. nat_le 1 count) (λ _. Count) rest fault → IsHeadFault id bytes fault
  in_block_count : (format : Format) (count : ℕ) (rest : List ℕ) → bytes ≡ magic_bytes format ++ (to_be_bytes w32 id ++ (to_be_bytes w64 count ++ rest)) → id < 2 ^ 32 → 1 ≤ count → count < 2 ^ 64 → IsNumberFault w64 (2 ^ 64) (λ blocks. blocks == block_count count) (λ _. Count) rest fault → IsHeadFault id bytes fault

-- ---- a version

-- 00, or 01 and the value
abbrev pub IsStoredFault : List ℕ → TableError → Type 0
IsStoredFault [] fault = fault ≡ Short
IsStoredFault (zero ∷ bytes) fault = ⊥
IsStoredFault (suc zero ∷ bytes) fault = (field : EncodingError) × IsValueFault bytes field × (fault ≡ table_error field)
IsStoredFault (suc (suc n) ∷ bytes) fault = fault ≡ Word

-- the key and the number of a version are there, and bytes after them
pub record HasPlace (format : Format) (flushed : ℕ) (bytes : List ℕ) (v : Version) (rest : List ℕ) : Type 0 where
  pub parts : bytes ≡ word_bytes v.key ++ (to_be_bytes (number_width format) v.number ++ rest)
  pub word : is_key v.key ≡ true
  pub numbered : has_number format v ≡ true
  pub flushed_number : is_flushed flushed v ≡ true

-- the key, the number, the order, or the value of the version after those before it
pub data IsVersionFault (format : Format) (flushed : ℕ) (before : List Version) (bytes : List ℕ) (fault : TableError) : Type 0 where
  in_key : (field : EncodingError) → IsWordFault MOST_KEY_BYTES bytes field → fault ≡ table_error field → IsVersionFault format flushed before bytes fault
  in_number : (key rest : List ℕ) → HasKey bytes key rest → IsNumberFault (number_width format) (number_end format) (λ n. nat_le 1 n && nat_le n flushed) (λ _. Number) rest fault → IsVersionFault format flushed before bytes fault
  out_of_order : (v : Version) (rest : List ℕ) → HasPlace format flushed bytes v rest → is_after_last before v ≡ false → fault ≡ Order → IsVersionFault format flushed before bytes fault
  in_value : (v : Version) (rest : List ℕ) → HasPlace format flushed bytes v rest → is_after_last before v ≡ true → IsStoredFault rest fault → IsVersionFault format flushed before bytes fault

-- ---- blocks

-- the count of a block that is to have so many versions, or one of them
pub data IsBlockFault (format : Format) (count flushed : ℕ) (before : List Version) (bytes : List ℕ) (fault : TableError) : Type 0 where
  in_count : IsNumberFault w16 (2 ^ 16) (λ found. found == count) (λ _. Count) bytes fault → IsBlockFault format count flushed before bytes fault
  in_versions : (versions : List Version) (rest : List ℕ) → bytes ≡ to_be_bytes w16 count ++ (flat_map (version_bytes format) versions ++ rest) → length versions < count → AreInOrder (before ++ versions) → list_all (is_version format flushed) versions ≡ true
      → IsVersionFault format flushed (before ++ versions) rest fault → IsBlockFault format count flushed before bytes fault

-- fewer blocks than there are to be are right, each with 16 versions, and the next one has the fault
pub record IsBlocksFault (format : Format) (count flushed : ℕ) (bytes : List ℕ) (fault : TableError) : Type 0 where
  pub blocks : ℕ
  pub versions : List Version
  pub rest : List ℕ
  pub full : length versions ≡ blocks * BLOCK
  pub fewer : length versions < count
  pub parts : bytes ≡ flat_map (block_bytes format) (blocks_in blocks versions) ++ rest
  pub in_order : AreInOrder versions
  pub in_range : list_all (is_version format flushed) versions ≡ true
  pub wrong : IsBlockFault format (min (count - length versions) BLOCK) flushed versions rest fault

-- ---- the index and the end

abbrev pub FitsField : ℕ → Type 0
FitsField place = place < 2 ^ 64

-- some of the places are right, and the next one has the fault
pub record IsPlacesFault (places bytes : List ℕ) (fault : TableError) : Type 0 where
  pub front : List ℕ
  pub place : ℕ
  pub others : List ℕ
  pub rest : List ℕ
  pub listed : places ≡ front ++ (place ∷ others)
  pub parts : bytes ≡ flat_map (to_be_bytes w64) front ++ rest
  pub fit : AllByRecursion FitsField front
  pub wrong : IsNumberFault w64 (2 ^ 64) (λ found. found == place) (λ _. Index) rest fault

-- ---- all of the bytes

-- the head is there, and bytes after it
pub record HasHead (format : Format) (id count : ℕ) (bytes rest : List ℕ) : Type 0 where
  pub parts : bytes ≡ head_bytes format id count ++ rest
  pub id_fits : id < 2 ^ 32
  pub some : 1 ≤ count
  pub count_fits : count < 2 ^ 64

-- the head and all blocks are there, and bytes after them
pub record HasBlocks (format : Format) (id flushed : ℕ) (versions : List Version) (bytes rest : List ℕ) : Type 0 where
  pub head : HasHead format id (length versions) bytes (flat_map (block_bytes format) (blocks_of versions) ++ rest)
  pub in_order : AreInOrder versions
  pub in_range : list_all (is_version format flushed) versions ≡ true

-- The first fault of the bytes: it is in the head, in a block, or in the index or the end; or bytes follow the table.
pub data IsTableFault (id flushed : ℕ) (bytes : List ℕ) (fault : TableError) : Type 0 where
  in_head : IsHeadFault id bytes fault → IsTableFault id flushed bytes fault
  in_blocks : (format : Format) (count : ℕ) (rest : List ℕ) → HasHead format id count bytes rest → IsBlocksFault format count flushed rest fault → IsTableFault id flushed bytes fault
  in_places : (format : Format) (versions : List Version) (rest : List ℕ) → HasBlocks format id flushed versions bytes rest → IsPlacesFault (places_from format 25 (blocks_of versions)) rest fault → IsTableFault id flushed bytes fault
  behind : (format : Format) (versions : List Version) (byte : ℕ) (rest : List ℕ) → IsTableIn format id flushed versions → bytes ≡ table_bytes format id versions ++ (byte ∷ rest) → fault ≡ Extra → IsTableFault id flushed bytes fault
