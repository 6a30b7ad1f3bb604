-- Reading a table from left to right, with the first fault that is met.
use Rattle.std.specs.Prelude.{ℕ, zero, suc, ◌-◌, min, Bool, true, ◌&&◌, ◌==◌, nat_le, List, [], ◌∷◌, ◌++◌, length, codes, Option, Some, None, Result, Ok, Err, if◌then◌else◌}
use Rattle.std.specs.Int.{w16, w32, w64}
use Rattle.std.specs.Ordering.{is_lt}
use Rattle.std.specs.Str.{bytes_eq}
use Rattle.wp_model.specs.declared.word.TheConstants.{MOST_KEY_BYTES}
use Rattle.wp_model.specs.declared.version.Version.{Version}
use Rattle.wp_model.specs.Versions.{version_cmp}
use Rattle.wp_fields.specs.Reading.{◌>>=◌, map_err, byte_at, number_at, piece_at}
use Rattle.wp_fields.specs.declared.format.Format.{Format}
use Rattle.wp_fields.specs.Format.{format_of, number_width}
use Rattle.wp_encoding.specs.Reading.{word_field_at, value_field_at}
use Rattle.wp_table.specs.declared.layout.TheConstants.{BLOCK}
use Rattle.wp_table.specs.declared.error.TableError.{TableError}
use Rattle.wp_table.specs.declared.error.TableError.TheVariants.{Short, Head, Stranger, Count, Word, Number, Order, Index, Extra}
use Rattle.wp_table.specs.Errors.{table_error}
use Rattle.wp_table.specs.Table.{block_count}

-- what was read, where it is right
abbrev pub if_right : {X : Type 0} → Bool → TableError → X → Result X TableError
if_right right fault read = if right then Ok read else Err fault

-- ---- the head

-- the version of the format that a byte names, and the bytes after it
abbrev pub named_format : Option Format → List ℕ → Result (Format × List ℕ) TableError
named_format None bytes = Err Head
named_format (Some format) bytes = Ok (format, bytes)

-- the version of the format, after the magic
unfoldable pub format_at : List ℕ → Result (Format × List ℕ) TableError
format_at bytes = do
  magic ← piece_at Short 4 bytes
  rest ← if_right (bytes_eq magic.0 (codes "WPTB")) Head magic.1
  byte ← byte_at Short rest
  named_format (format_of byte.0) byte.1

-- the bytes after the store's id
unfoldable pub after_id : ℕ → List ℕ → Result (List ℕ) TableError
after_id id bytes = do
  found ← number_at Short w32 bytes
  if_right (found.0 == id) (Stranger found.0) found.1

-- the number of versions, and after it that of blocks
unfoldable pub count_at : List ℕ → Result (ℕ × List ℕ) TableError
count_at bytes = do
  count ← number_at Short w64 bytes
  rest ← if_right (nat_le 1 count.0) Count count.1
  blocks ← number_at Short w64 rest
  if_right (blocks.0 == block_count count.0) Count (count.0, blocks.1)

-- the version of the format, and the number of versions
unfoldable pub head_at : ℕ → List ℕ → Result ((Format × ℕ) × List ℕ) TableError
head_at id bytes = do
  format ← format_at bytes
  bytes ← after_id id format.1
  count ← count_at bytes
  Ok ((format.0, count.0), count.1)

-- ---- a version

-- the number of a flushed entry
unfoldable pub flushed_number_at : Format → ℕ → List ℕ → Result (ℕ × List ℕ) TableError
flushed_number_at format flushed bytes = do
  number ← number_at Short (number_width format) bytes
  if_right (nat_le 1 number.0 && nat_le number.0 flushed) Number number

-- 00, or 01 and the value
unfoldable pub stored_at : List ℕ → Result (Option (List ℕ) × List ℕ) TableError
stored_at [] = Err Short
stored_at (zero ∷ bytes) = Ok (None, bytes)
stored_at (suc zero ∷ bytes) = do
  value ← map_err table_error (value_field_at bytes)
  Ok (Some value.0, value.1)
stored_at (suc (suc n) ∷ bytes) = Err Word

-- the last version, if there is one
abbrev pub last_of : List Version → Option Version
last_of [] = None
last_of (last ∷ []) = Some last
last_of (first ∷ second ∷ others) = last_of (second ∷ others)

-- the version comes after the last one, if there is one
abbrev pub is_after : Option Version → Version → Bool
is_after None v = true
is_after (Some last) v = is_lt (version_cmp last v)

-- the version comes after the last of those before it, if there is one
abbrev pub is_after_last : List Version → Version → Bool
is_after_last before v = is_after (last_of before) v

-- the key and the number of the version after the last one, whose value is still to be read
unfoldable pub next_place_at : Format → ℕ → Option Version → List ℕ → Result (Version × List ℕ) TableError
next_place_at format flushed last bytes = do
  key ← map_err table_error (word_field_at MOST_KEY_BYTES bytes)
  number ← flushed_number_at format flushed key.1
  let version : Version = record { key = key.0; number = number.0; value = None } in if_right (is_after last version) Order (version, number.1)

-- the version after the last one
unfoldable pub next_version_at : Format → ℕ → Option Version → List ℕ → Result (Version × List ℕ) TableError
next_version_at format flushed last bytes = do
  place ← next_place_at format flushed last bytes
  value ← stored_at place.1
  Ok (record { key = place.0.key; number = place.0.number; value = value.0 }, value.1)

-- ---- blocks

-- the versions with so many more
unfoldable pub versions_after : Format → ℕ → ℕ → List Version → List ℕ → Result (List Version × List ℕ) TableError
versions_after format zero flushed versions bytes = Ok (versions, bytes)
versions_after format (suc count) flushed versions bytes = do
  version ← next_version_at format flushed (last_of versions) bytes
  versions_after format count flushed (versions ++ version.0 ∷ []) version.1

-- the versions with those of a block that is to have so many
unfoldable pub block_after : Format → ℕ → ℕ → List Version → List ℕ → Result (List Version × List ℕ) TableError
block_after format count flushed versions bytes = do
  found ← number_at Short w16 bytes
  rest ← if_right (found.0 == count) Count found.1
  versions_after format count flushed versions rest

-- The versions with those of so many more blocks, of which `left` are left, and the places: where each block begins in
-- a table of `size` bytes, and at last where the blocks end.
unfoldable pub blocks_after : Format → ℕ → ℕ → ℕ → ℕ → List Version → List ℕ → List ℕ → Result ((List Version × List ℕ) × List ℕ) TableError
blocks_after format zero size flushed left versions places bytes = Ok ((versions, places ++ (size - length bytes) ∷ []), bytes)
blocks_after format (suc blocks) size flushed left versions places bytes = do
  block ← block_after format (min left BLOCK) flushed versions bytes
  blocks_after format blocks size flushed (left - min left BLOCK) block.0 (places ++ (size - length bytes) ∷ []) block.1

-- ---- the index and the end

-- the bytes after the place
unfoldable pub after_place : ℕ → List ℕ → Result (List ℕ) TableError
after_place place bytes = do
  found ← number_at Short w64 bytes
  if_right (found.0 == place) Index found.1

-- the bytes after all of these places
unfoldable pub after_places : List ℕ → List ℕ → Result (List ℕ) TableError
after_places [] bytes = Ok bytes
after_places (place ∷ places) bytes = do
  rest ← after_place place bytes
  after_places places rest

-- ---- all of the bytes

unfoldable pub table_at : ℕ → ℕ → List ℕ → Result (List Version) TableError
table_at id flushed bytes = do
  head ← head_at id bytes
  blocks ← blocks_after head.0.0 (block_count head.0.1) (length bytes) flushed head.0.1 [] [] head.1
  rest ← after_places blocks.0.1 blocks.1
  if_right (length rest == 0) Extra blocks.0.0
