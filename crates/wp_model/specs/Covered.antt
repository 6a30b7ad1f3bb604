-- Which versions show every reader what a history holds.
use Rattle.std.specs.Prelude.{◌≡◌, ℕ, ◌<◌, ◌≤◌, ◌⊎◌, Bool, true, ◌==◌, List, length, Option, Some, None}
use Rattle.std.specs.List.{list_any}
use Rattle.wp_model.specs.declared.entry.Entry.{Entry}
use Rattle.wp_model.specs.History.{is_undecided, value_at}
use Rattle.wp_model.specs.Legal.{undone_last}
use Rattle.wp_model.specs.Decision as decision
use Rattle.wp_model.specs.declared.version.Version.{Version}
use Rattle.wp_model.specs.Versions.{version_at}

-- ---- what a reader at n finds

-- the newest version of the key in the list that is committed at n has the store's value there, or is a deletion where
-- that is missing
pub record GivesNewest (versions : List Version) (history : List Entry) (key : List ℕ) (n : ℕ) : Type 0 where
  pub number : ℕ
  pub value : Option (List ℕ)
  pub there : version_at versions key number ≡ Some value
  pub committed : decision.IsCommittedAt history number n
  pub newest : (q : ℕ) → number < q → decision.IsCommittedAt history q n → version_at versions key q ≡ None
  pub stored : value_at history key n ≡ value

-- the list has no version of the key that is committed at n, and the store has nothing there
pub record GivesNone (versions : List Version) (history : List Entry) (key : List ℕ) (n : ℕ) : Type 0 where
  pub none : (p : ℕ) → decision.IsCommittedAt history p n → version_at versions key p ≡ None
  pub missing : value_at history key n ≡ None

abbrev pub GivesStore : List Version → List Entry → List ℕ → ℕ → Type 0
GivesStore versions history key n = GivesNewest versions history key n ⊎ GivesNone versions history key n

abbrev pub is_among : List ℕ → ℕ → Bool
is_among numbers n = list_any (λ m. m == n) numbers

-- The versions are some of those that the history has. Each that is undecided is there, and each of an undo that ends
-- the history. A reader finds the store's value at each listed number, and at each from a number on.
pub record IsCovered (versions : List Version) (history : List Entry) (numbers : List ℕ) (from : ℕ) : Type 0 where
  pub part : (key : List ℕ) (p : ℕ) (value : Option (List ℕ)) → version_at versions key p ≡ Some value → decision.entry_version history p key ≡ Some value
  pub undecided : (key : List ℕ) (p : ℕ) (value : Option (List ℕ)) → is_undecided history p ≡ true → decision.entry_version history p key ≡ Some value → version_at versions key p ≡ Some value
  pub undone : (key : List ℕ) (p : ℕ) (value : Option (List ℕ)) → undone_last history ≡ Some p → decision.entry_version history (length history) key ≡ Some value → version_at versions key (length history) ≡ Some value
  pub listed : (key : List ℕ) (n : ℕ) → is_among numbers n ≡ true → GivesStore versions history key n
  pub later : (key : List ℕ) (n : ℕ) → from ≤ n → n ≤ length history → GivesStore versions history key n
