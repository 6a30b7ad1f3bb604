-- The versions of the store's formats, and how wide the numbers of entries are in each.
use Rattle.std.specs.Prelude.{ℕ, zero, suc, ◌^◌, Option, Some, None}
use Rattle.std.specs.Int.{Width, w32, w64}
use Rattle.wp_fields.specs.declared.format.Format.{Format}
use Rattle.wp_fields.specs.declared.format.Format.TheVariants.{One, Two}

-- the byte that names the version
abbrev pub format_byte : Format → ℕ
format_byte One = 1
format_byte Two = 2

-- the version that the byte names, if it names one
abbrev pub format_of : ℕ → Option Format
format_of zero = None
format_of (suc zero) = Some One
format_of (suc (suc zero)) = Some Two
format_of (suc (suc (suc n))) = None

-- the number of an entry takes four bytes, or eight
abbrev pub number_width : Format → Width
number_width One = w32
number_width Two = w64

-- the least number that does not fit
abbrev pub number_end : Format → ℕ
number_end One = 2 ^ 32
number_end Two = 2 ^ 64
