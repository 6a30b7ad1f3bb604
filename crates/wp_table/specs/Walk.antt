-- The versions that the bytes of a table have, read again without looking for faults.
use Rattle.std.specs.Prelude.{◌≡◌, ℕ, zero, suc, ◌-◌, ◌≤◌, ◌<◌, ◌*◌, List, [], ◌∷◌, ◌++◌, length, drop, Bool, false, Option, Some, None, Result, Ok, Err}
use Rattle.std.specs.Int.{w16}
use Rattle.wp_model.specs.declared.version.Version.{Version}
use Rattle.wp_fields.specs.Reading.{◌>>=◌, byte_at, number_at, piece_at}
use Rattle.wp_fields.specs.declared.format.Format.{Format}
use Rattle.wp_fields.specs.Format.{number_width}
use Rattle.wp_table.specs.declared.layout.TheConstants.{BLOCK}
use Rattle.wp_table.specs.declared.error.TableError.{TableError}
use Rattle.wp_table.specs.declared.error.TableError.TheVariants.{Short}
use Rattle.wp_table.specs.Borrowed.{begins_short, skip_short}
use Rattle.wp_table.specs.Table.{block_count, blocks_of, places_from, table_bytes, IsTableIn}

-- ---- one version

unfoldable pub word_in : List ℕ → Result (List ℕ × List ℕ) TableError
word_in bytes = do
  len ← byte_at Short bytes
  piece_at Short len.0 len.1

unfoldable pub value_in : List ℕ → Result (List ℕ × List ℕ) TableError
value_in bytes = do
  len ← number_at Short w16 bytes
  piece_at Short len.0 len.1

unfoldable pub stored_in : List ℕ → Result (Option (List ℕ) × List ℕ) TableError
stored_in [] = Err Short
stored_in (zero ∷ bytes) = Ok (None, bytes)
stored_in (suc n ∷ bytes) = do
  value ← value_in bytes
  Ok (Some value.0, value.1)

unfoldable pub version_in : Format → List ℕ → Result (Version × List ℕ) TableError
version_in format bytes = do
  key ← word_in bytes
  number ← number_at Short (number_width format) key.1
  value ← stored_in number.1
  Ok (record { key = key.0; number = number.0; value = value.0 }, value.1)

-- ---- all versions

-- the next version, where so many come before the count of the next block
unfoldable pub next_in : Format → ℕ → List ℕ → Result (Version × List ℕ) TableError
next_in format zero bytes = do
  count ← number_at Short w16 bytes
  version_in format count.1
next_in format (suc in_block) bytes = version_in format bytes

-- how many come before the count of the next block, behind one version more
abbrev pub one_less : ℕ → ℕ
one_less zero = BLOCK - 1
one_less (suc in_block) = in_block

-- the version that was read, and those that the bytes after it have
abbrev pub with_rest : (List ℕ → List Version) → Result (Version × List ℕ) TableError → List Version
with_rest rest (Ok read) = read.0 ∷ rest read.1
with_rest rest (Err fault) = []

-- the versions that the bytes have, `left` of them at most
unfoldable pub versions_in : Format → ℕ → ℕ → List ℕ → List Version
versions_in format zero in_block bytes = []
versions_in format (suc left) in_block bytes = with_rest (versions_in format left (one_less in_block)) (next_in format in_block bytes)

-- the versions of a table of so many
abbrev pub stored_versions : Format → List ℕ → ℕ → List Version
stored_versions format bytes count = versions_in format count 0 (drop 25 bytes)

-- ---- a table with its index

-- the bytes are a table of so many versions in this version of the format, and these are the places where its blocks begin
pub record IsIndexed (format : Format) (bytes : List ℕ) (count : ℕ) (places : List ℕ) : Type 0 where
  pub id : ℕ
  pub flushed : ℕ
  pub versions : List Version
  pub end : ℕ
  pub is : IsTableIn format id flushed versions
  pub parts : bytes ≡ table_bytes format id versions
  pub counted : count ≡ length versions
  pub placed : places ++ end ∷ [] ≡ places_from format 25 (blocks_of versions)

-- a table that was built: its bytes, and the versions that they have
pub record BuiltTable : Type 0 where
  pub bytes : List ℕ
  pub versions : List Version

-- Each version before the block `first` has a key before what is looked for. The block `behind` comes later, and the first key
-- there, if there is one, does not come before it.
pub record StandsFrom (versions : List Version) (above : Bool) (key : List ℕ) (first behind : ℕ) : Type 0 where
  pub later : first < behind
  pub within : behind ≤ block_count (length versions)
  pub from : skip_short above key (drop (first * BLOCK) versions) ≡ skip_short above key versions
  pub not_short : begins_short above key (drop (behind * BLOCK) versions) ≡ false
