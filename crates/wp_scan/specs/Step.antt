-- What going on to the next key comes to.
use Rattle.std.specs.Prelude.{◌≡◌, ℕ, List, [], ◌∷◌, Option, Some, None}
use Rattle.wp_model.specs.declared.entry.Entry.{Entry}
use Rattle.wp_model.specs.Rows.{Pair, pair_of}
use Rattle.wp_scan.specs.declared.scan.Step.{Step}
use Rattle.wp_scan.specs.declared.scan.Step.TheVariants.{Row, Passed, End}
use Rattle.wp_scan.specs.Scan.{IsShownAt}

-- what is given of a key
abbrev pub given : List ℕ → Option (ℕ × List ℕ) → Step
given key None = Passed
given key (Some row) = Row (record { key = key; number = row.0; value = row.1 })

-- a row is the first of those that were left, and the others are left; past a key without one as many are; at the end none was
abbrev pub IsStep : (before after : List Pair) → Step → Type 0
IsStep before after (Row row) = before ≡ pair_of row ∷ after
IsStep before after Passed = before ≡ after
IsStep before after End = (before ≡ []) × (after ≡ [])

-- a row has the number of a version that is committed at n, and its value, and its key is in range
abbrev pub IsVersionOf : List Entry → ℕ → Step → Type 0
IsVersionOf history n (Row row) = IsShownAt history n row
IsVersionOf history n other = Unit {0}
