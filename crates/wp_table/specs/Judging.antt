-- Judging the bytes of a table: reading them in the same way, where of the versions only the last one is kept.
use Rattle.std.specs.Prelude.{ℕ, zero, suc, ◌-◌, min, ◌==◌, List, [], ◌∷◌, ◌++◌, length, Option, Some, None, Result, Ok}
use Rattle.std.specs.Int.{w16}
use Rattle.wp_model.specs.declared.version.Version.{Version}
use Rattle.wp_fields.specs.Reading.{◌>>=◌, number_at}
use Rattle.wp_fields.specs.declared.format.Format.{Format}
use Rattle.wp_table.specs.declared.layout.TheConstants.{BLOCK}
use Rattle.wp_table.specs.declared.error.TableError.{TableError}
use Rattle.wp_table.specs.declared.error.TableError.TheVariants.{Short, Count, Extra}
use Rattle.wp_table.specs.Table.{block_count}
use Rattle.wp_table.specs.Reading.{if_right, head_at, next_version_at, after_place, after_places}

-- the last version after so many more
unfoldable pub last_after : Format → ℕ → ℕ → Option Version → List ℕ → Result (Option Version × List ℕ) TableError
last_after format zero flushed last bytes = Ok (last, bytes)
last_after format (suc count) flushed last bytes = do
  version ← next_version_at format flushed last bytes
  last_after format count flushed (Some version.0) version.1

-- the last version after those of a block that is to have so many
unfoldable pub last_of_block : Format → ℕ → ℕ → Option Version → List ℕ → Result (Option Version × List ℕ) TableError
last_of_block format count flushed last bytes = do
  found ← number_at Short w16 bytes
  rest ← if_right (found.0 == count) Count found.1
  last_after format count flushed last rest

-- the places with those of so many more blocks, of which `left` versions are left
unfoldable pub places_after : Format → ℕ → ℕ → ℕ → ℕ → Option Version → List ℕ → List ℕ → Result (List ℕ × List ℕ) TableError
places_after format zero size flushed left last places bytes = Ok (places, bytes)
places_after format (suc blocks) size flushed left last places bytes = do
  block ← last_of_block format (min left BLOCK) flushed last bytes
  places_after format blocks size flushed (left - min left BLOCK) block.0 (places ++ (size - length bytes) ∷ []) block.1

-- the version of the table's format, how many versions it has, and the places where its blocks begin
unfoldable pub table_judged : ℕ → ℕ → List ℕ → Result (Format × ℕ × List ℕ) TableError
table_judged id flushed bytes = do
  head ← head_at id bytes
  places ← places_after head.0.0 (block_count head.0.1) (length bytes) flushed head.0.1 None [] head.1
  rest ← after_places places.0 places.1
  rest ← after_place (length bytes - length places.1) rest
  if_right (length rest == 0) Extra (head.0.0, head.0.1, places.0)
