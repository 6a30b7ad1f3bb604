-- How a word keeps its bytes.
use Rattle.std.specs.Prelude.{ℕ, ◌≤◌, List, take}
use Rattle.wp_model.specs.declared.word_bytes.TheConstants.{SHORT, MIDDLE}
use Rattle.wp_model.specs.declared.word_bytes.WordBytes.{WordBytes}
use Rattle.wp_model.specs.declared.word_bytes.WordBytes.TheVariants.{Short, Middle, Long}

abbrev pub bytes_in : WordBytes → List ℕ
bytes_in (Short len places) = take len places
bytes_in (Middle len places) = take len places.value
bytes_in (Long bytes) = bytes.value.items

-- there are places for as many bytes as are counted
abbrev pub Fits : WordBytes → Type 0
Fits (Short len places) = len ≤ SHORT
Fits (Middle len places) = len ≤ MIDDLE
Fits (Long bytes) = Unit {0}
