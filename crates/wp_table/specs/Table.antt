-- A table: a list of versions, and its one spelling in each version of the format.
use Rattle.std.specs.Prelude.{◌≡◌, ℕ, zero, suc, ◌+◌, ◌<◌, ◌≤◌, ◌^◌, Bool, true, ◌&&◌, nat_le, nat_lt, List, [], ◌∷◌, ◌++◌, length, take, drop, codes, Option, Some, None}
use Rattle.std.specs.Int.{w16, w32, w64, to_be_bytes, div_ceil}
use Rattle.std.specs.List.{flat_map, list_all}
use Rattle.wp_model.specs.declared.version.Version.{Version}
use Rattle.wp_model.specs.Versions.{AreInOrder}
use Rattle.wp_model.specs.Word.{is_key, is_value}
use Rattle.wp_fields.specs.declared.format.Format.{Format}
use Rattle.wp_fields.specs.declared.format.Format.TheVariants.{Two}
use Rattle.wp_fields.specs.Format.{format_byte, number_width, number_end}
use Rattle.wp_encoding.specs.Encoding.{word_bytes, value_bytes}
use Rattle.wp_table.specs.declared.layout.TheConstants.{BLOCK}

-- ---- the spelling

-- 00 for a deletion, or 01 and the value
abbrev pub stored_bytes : Option (List ℕ) → List ℕ
stored_bytes None = 0 ∷ []
stored_bytes (Some value) = 1 ∷ value_bytes value

-- a version: its key, its number, and its value or none
abbrev pub version_bytes : Format → Version → List ℕ
version_bytes format v = word_bytes v.key ++ (to_be_bytes (number_width format) v.number ++ stored_bytes v.value)

-- a block: two bytes count, and that many versions
abbrev pub block_bytes : Format → List Version → List ℕ
block_bytes format block = to_be_bytes w16 (length block) ++ flat_map (version_bytes format) block

-- how many blocks so many versions take
abbrev pub block_count : ℕ → ℕ
block_count count = div_ceil count BLOCK

-- so many blocks: each has the next 16 versions, the last one those that are left
abbrev pub blocks_in : ℕ → List Version → List (List Version)
blocks_in zero versions = []
blocks_in (suc blocks) versions = take BLOCK versions ∷ blocks_in blocks (drop BLOCK versions)

abbrev pub blocks_of : List Version → List (List Version)
blocks_of versions = blocks_in (block_count (length versions)) versions

-- where each of the blocks begins, the first of them at `place`, and at last where they end
abbrev pub places_from : Format → ℕ → List (List Version) → List ℕ
places_from format place [] = place ∷ []
places_from format place (block ∷ blocks) = place ∷ places_from format (place + length (block_bytes format block)) blocks

-- the head: the magic, the byte of the format's version, the store's id, the number of versions and that of blocks
abbrev pub head_bytes : Format → ℕ → ℕ → List ℕ
head_bytes format id count = codes "WPTB" ++ (format_byte format ∷ (to_be_bytes w32 id ++ (to_be_bytes w64 count ++ to_be_bytes w64 (block_count count))))

-- A table: its head of 25 bytes and its blocks. Then comes the index, the place of each block in eight bytes, and the
-- end, the place of the index, which is where the blocks end.
abbrev pub table_bytes : Format → ℕ → List Version → List ℕ
table_bytes format id versions =
    head_bytes format id (length versions) ++ (flat_map (block_bytes format) (blocks_of versions) ++ flat_map (to_be_bytes w64) (places_from format 25 (blocks_of versions)))

-- ---- what has a spelling

-- the number is from 1 on, and below 2^56
abbrev pub is_numbered : Version → Bool
is_numbered v = nat_le 1 v.number && nat_lt v.number (2 ^ 56)

-- the number is from 1 on, and as wide as numbers are
abbrev pub has_number : Format → Version → Bool
has_number format v = nat_le 1 v.number && nat_lt v.number (number_end format)

-- the entry with the version's number was flushed
abbrev pub is_flushed : ℕ → Version → Bool
is_flushed flushed v = nat_le v.number flushed

-- the value, if there is one, is in range
abbrev pub is_stored : Option (List ℕ) → Bool
is_stored None = true
is_stored (Some value) = is_value value

-- the version's key and value are in range
abbrev pub has_words : Version → Bool
has_words v = is_key v.key && is_stored v.value

-- the version may be in a table
abbrev pub is_version : Format → ℕ → Version → Bool
is_version format flushed v = has_words v && (has_number format v && is_flushed flushed v)

-- The versions are a table of the store with that id, where the entries up to `flushed` were flushed, in this version of
-- the format. Its places fit in eight bytes.
pub record IsTableIn (format : Format) (id flushed : ℕ) (versions : List Version) : Type 0 where
  pub some : 1 ≤ length versions
  pub in_order : AreInOrder versions
  pub in_range : list_all (is_version format flushed) versions ≡ true
  pub id_fits : id < 2 ^ 32
  pub places_fit : 25 + length (flat_map (block_bytes format) (blocks_of versions)) < 2 ^ 64

-- a table in one of the versions of the format
abbrev pub IsTable : ℕ → ℕ → List Version → Type 0
IsTable id flushed versions = (format : Format) × IsTableIn format id flushed versions

-- the bytes are the spelling of the table that the versions are, in one of the versions of the format
abbrev pub SpellsTable : ℕ → ℕ → List Version → List ℕ → Type 0
SpellsTable id flushed versions bytes = (format : Format) × IsTableIn format id flushed versions × (bytes ≡ table_bytes format id versions)

-- the spelling that tables are written in: that in the second version of the format
abbrev pub written_bytes : ℕ → List Version → List ℕ
written_bytes id versions = table_bytes Two id versions
