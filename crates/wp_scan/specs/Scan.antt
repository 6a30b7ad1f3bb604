-- A place in a range of keys, and the rows that are left behind it.
use Rattle.std.specs.Prelude.{◌≡◌, ℕ, Bool, true, List, [], ◌∷◌, ◌++◌, Option, Some, None, if◌then◌else◌}
use Rattle.wp_model.specs.declared.entry.Entry.{Entry}
use Rattle.wp_model.specs.declared.row.Row.{Row}
use Rattle.wp_model.specs.Rows.{Pair, pair_of, rows_from}
use Rattle.wp_model.specs.Word.{is_key}
use Rattle.wp_read.specs.Rows.{IsRowAt}

-- a key, and whether it is passed; the end of the range; and whether nothing is left
pub record ScanState : Type 0 where
  pub at : List ℕ
  pub above : Bool
  pub to : List ℕ
  pub over : Bool

-- the rows that are left of it at a number
abbrev pub left_of : List Entry → ℕ → ScanState → List Pair
left_of history n scan = if scan.over then [] else rows_from history scan.above scan.at scan.to n

-- it stands behind that key
abbrev pub passed : List ℕ → ScanState → ScanState
passed key scan = record scan { at = key; above = true }

-- Where what was given before and what was left are all of some rows, so are what was given with this one and what is left; or, where
-- none is given, all was given before.
abbrev pub GivesOn : (before after : List Pair) → Option Row → Type 0
GivesOn before after None = (given whole : List Pair) → given ++ before ≡ whole → given ≡ whole
GivesOn before after (Some row) = (given whole : List Pair) → given ++ before ≡ whole → (given ++ pair_of row ∷ []) ++ after ≡ whole

-- the row is the key's at n, and the key is in its range
pub record IsShownAt (history : List Entry) (n : ℕ) (row : Row) : Type 0 where
  pub is : IsRowAt history row.key n row.number row.value
  pub in_range : is_key row.key ≡ true
