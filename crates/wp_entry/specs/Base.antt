-- The base record of a log: the number up to which the log has no entries, and the prepares that are undecided there. It is
-- of the second version of the format, and each base has one spelling.
use Rattle.std.specs.Prelude.{◌≡◌, ℕ, ◌<◌, ◌≤◌, Bool, true, ◌&&◌, List, [], ◌∷◌, ◌++◌, length}
use Rattle.std.specs.Int.{w64, to_be_bytes}
use Rattle.std.specs.List.{flat_map, list_all}
use Rattle.wp_model.specs.declared.carried.Carried.{Carried}
use Rattle.wp_model.specs.Word.{is_name}
use Rattle.wp_fields.specs.declared.format.Format.TheVariants.{Two}
use Rattle.wp_encoding.specs.Encoding.{word_bytes, batch_bytes, are_changes}
use Rattle.wp_entry.specs.Record.{last_number}

-- a base, and what it carries
pub record Base : Type 0 where
  pub number : ℕ
  pub carried : List Carried

-- ---- the spelling

-- a carried prepare: its number in eight bytes, its name and its batch
abbrev pub carried_bytes : Carried → List ℕ
carried_bytes x = to_be_bytes w64 x.number ++ (word_bytes x.name ++ batch_bytes x.batch)

-- the base and the count of carried prepares, in eight bytes each, and these
abbrev pub base_bytes : Base → List ℕ
base_bytes base = to_be_bytes w64 base.number ++ (to_be_bytes w64 (length base.carried) ++ flat_map carried_bytes base.carried)

-- ---- what has a spelling

-- the numbers ascend from above the last one on, up to the base
abbrev pub AscendUpTo : ℕ → ℕ → List Carried → Type 0
AscendUpTo base last [] = Unit {0}
AscendUpTo base last (x ∷ others) = (last < x.number) × (x.number ≤ base) × AscendUpTo base x.number others

-- its name and its batch are in range
abbrev pub is_carried : Carried → Bool
is_carried x = is_name x.name && are_changes x.batch

-- A base that an entry may have as its number, with prepares from 1 up to it, in the order of their numbers.
pub record IsBase (base : Base) : Type 0 where
  pub small : base.number ≤ last_number Two
  pub ascend : AscendUpTo base.number 0 base.carried
  pub in_range : list_all is_carried base.carried ≡ true
