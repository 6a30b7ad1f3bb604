-- The row of a key at a number, and what is passed over on the way to the next one.
use Rattle.std.specs.Prelude.{◌≡◌, ℕ, Bool, true, false, List, Option, Some, None}
use Rattle.std.specs.declared.cmp.Ordering.TheVariants.{Less}
use Rattle.wp_model.specs.declared.entry.Entry.{Entry}
use Rattle.wp_model.specs.Batch.{key_cmp}
use Rattle.wp_model.specs.Decision.{IsCommittedAt, entry_version}
use Rattle.wp_model.specs.History.{value_at}
use Rattle.wp_model.specs.Rows.{is_from}
use Rattle.wp_model.specs.Word.{is_key}

-- the version of the key with that number is committed at n, and has the value that the store has there
pub record IsRowAt (history : List Entry) (key : List ℕ) (n number : ℕ) (value : List ℕ) : Type 0 where
  pub committed : IsCommittedAt history number n
  pub version : entry_version history number key ≡ Some (Some value)
  pub stored : value_at history key n ≡ Some value

-- the key's row, a number with a value, or none where the store has nothing under it
abbrev pub IsRowOf : List Entry → List ℕ → ℕ → Option (ℕ × List ℕ) → Type 0
IsRowOf history key n None = value_at history key n ≡ None
IsRowOf history key n (Some row) = IsRowAt history key n row.0 row.1

-- the other key comes before that one, if there is one
abbrev pub IsBefore : List ℕ → Option (List ℕ) → Type 0
IsBefore other None = Unit {0}
IsBefore other (Some key) = key_cmp other key ≡ Less

-- no key from a place on and before that one has a value at n
abbrev pub SkipsNoRow : List Entry → ℕ → (above : Bool) → List ℕ → Option (List ℕ) → Type 0
SkipsNoRow history n above key found = (other : List ℕ) → is_from above key other ≡ true → IsBefore other found → value_at history other n ≡ None

-- the key comes from the place on, and up to the end
abbrev pub IsInRange : (above : Bool) → (key to : List ℕ) → List ℕ → Type 0
IsInRange above key to other = (is_from above key other ≡ true) × (is_from false other to ≡ true)

-- no key of the range has a value at n
abbrev pub HasNoRow : List Entry → ℕ → (above : Bool) → (key to : List ℕ) → Type 0
HasNoRow history n above key to = (other : List ℕ) → IsInRange above key to other → value_at history other n ≡ None

-- each key that has a value at n is in its range
abbrev pub HasWords : List Entry → ℕ → Type 0
HasWords history n = (key value : List ℕ) → value_at history key n ≡ Some value → is_key key ≡ true
